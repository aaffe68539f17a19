-- What is written of an identity file reads back: its commands are an allowed phase one, and a session that would accept them one to a call accepts them however they are cut.
use Prim.Native.Nat.{ℕ, ◌≤◌}
use mathlib.Core.Path.{◌≡◌, refl, sym, ap, ap₂, subst, ◌∙◌}
use mathlib.Core.Bool.{Bool, true, false}
use mathlib.Core.Logic.{inl}
use mathlib.Core.List.{List, [], ◌∷◌, ◌++◌, map}
use lib.ListN.{length, take, drop}
use lib.Seq.{take-append_seam}
use native.Mathlib.Omega.{arith}
use borrow.Author.Tests.{ltb-false}
use Rattle.refusal.specs.Output.{bytes, refused, overflows, filled}
use Rattle.refusal.specs.Pick.{pick}
use Rattle.stanza.specs.Automaton.{start}
use Rattle.phase_one.specs.Views.{recipients, identities, keys, headers}
use Rattle.session.specs.declared.opening.Machine.{Machine}
use Rattle.session.specs.declared.phases.Phase.TheVariants.{Two}
use Rattle.tables.specs.Tables.{view}
use Rattle.session.specs.Session.{opened_session}
use Rattle.conversation.specs.Calls as one_call
use Rattle.conversation.specs.Calls.{receive, State, state_of, Accepted}
use Rattle.conversation.specs.Kinds.{AnyKind, first, second, Buffers, view_of}
use Rattle.conversation.specs.PhaseTwo as two
use Rattle.conversation.specs.PhaseTwo.{errors, stanzas, returned}
use Rattle.conversation.specs.Phases.{All, one_part, blocks_of, texts_of, calls_of}
use Rattle.conversation.proofs.Laws.AllowedOne.{Holds, quiet_calls, accepted_tables}
use Rattle.conversation.proofs.Laws.ShapesOne.{shaped_one_iff}
use Rattle.chunks.specs.Cutting.{cut}
use Rattle.chunks.specs.Taking.{plugin, emptied, joined}
use Rattle.chunks.specs.Uncut.{Piece, text_in, is_reply}
use Rattle.chunks.specs.Orders.{amples, state_behind}
use Rattle.chunks.proofs.Laws.Written.{cut_wholes}
use Rattle.identity_file.specs.Lines.{lines}
use Rattle.identity_file.specs.Kinds.{Kind, skipped, secret_key, invalid, valid, kind_of}
use Rattle.identity_file.specs.Files.{valid_by, valid_in, transcript, transcript_of, is_over, file_answer, file_buffer}
use Rattle.identity_file_back.specs.ReadBack.{just_opened, entry_of, ReadsBack}
use Rattle.identity_file_back.proofs.Laws.Taking.{came}
use Rattle.identity_file_back.proofs.Laws.Texts.{Argument, valid_argument}
use Rattle.identity_file_back.proofs.Laws.Phase.{texts_for, written_joined, texts_whole, texts_shaped, texts_rows, texts_allowed, phase_for, phase_texts, is_phase}

-- ---- a stanza to a call

-- the calls come to phase two, and leave these tables
record Left (machine : Machine) (name : List ℕ) (b : Buffers) (ls : List (List ℕ)) (z : State) : Type 0 where
  phase : z.session.phase ≡ Two
  entries : view_of (first identities) z.session.tables z.buffers ≡ map (entry_of name) ls
  others : (k : AnyKind) → (k ≡ first identities → ⊥) → view_of k z.session.tables z.buffers ≡ []

holds_others : (machine : Machine) (name : List ℕ) (ls : List (List ℕ)) → All Argument ls → (z : State) → Holds machine name (texts_for ls) z →
    (k : AnyKind) → (k ≡ first identities → ⊥) → view_of k z.session.tables z.buffers ≡ []
holds_others machine name ls a z h (first recipients) n = h.views recipients ∙ texts_rows machine name ls a recipients
holds_others machine name ls a z h (first identities) n = absurd (n refl)
holds_others machine name ls a z h (first keys) n = h.views keys ∙ texts_rows machine name ls a keys
holds_others machine name ls a z h (first headers) n = h.views headers ∙ texts_rows machine name ls a headers
holds_others machine name ls a z h (second errors) n = ap (λ t. view t (two.buffer_of errors z.buffers.second)) h.errors
holds_others machine name ls a z h (second stanzas) n = ap (λ t. view t (two.buffer_of stanzas z.buffers.second)) h.stanzas
holds_others machine name ls a z h (second returned) n = ap (λ t. view t (two.buffer_of returned z.buffers.second)) h.returned

module _ (machine : Machine) (name : List ℕ) (b : Buffers) (ls : List (List ℕ)) (a : All Argument ls) (few : length ls ≤ 64) (room : length (joined ls []) ≤ length b.first.identities) where
  abbrev calls : List one_call.Call
  calls = map receive (texts_for ls)

  calls_are : calls_of one_part amples (blocks_of (phase_for ls)) ≡ calls
  calls_are = quiet_calls amples (blocks_of (phase_for ls)) (is_phase ls a).quiet ∙ ap (map receive) (phase_texts ls)

  called : Accepted (opened_session machine name false) b calls × ((one_call.after (opened_session machine name false) b calls).session.phase ≡ Two)
  called = (shaped_one_iff machine name false b (texts_for ls)).1 (texts_shaped ls a, texts_allowed machine name b.first ls a few room)

  calls_hold : Holds machine name (texts_for ls) (one_call.after (opened_session machine name false) b calls)
  calls_hold =
      let s = opened_session machine name false in
      subst (λ ts. Holds machine name ts (one_call.after s b calls)) (phase_texts ls)
      (subst (λ cs. Holds machine name (texts_of (phase_for ls)) (one_call.after s b cs)) calls_are
      (accepted_tables machine name false b amples (phase_for ls) (is_phase ls a) (subst (Accepted s b) (sym calls_are) called.0)))

  left : Left machine name b ls (one_call.after (opened_session machine name false) b calls)
  left =
      let z = one_call.after (opened_session machine name false) b calls in
      record { phase = called.1; entries = calls_hold.views identities ∙ texts_rows machine name ls a identities; others = holds_others machine name ls a z calls_hold }

  -- ---- in any cut

  pub cut_back : (cs : List Piece) → All (λ c. is_reply c ≡ false) cs → text_in cs ≡ transcript ls → ReadsBack machine name b cs ls
  cut_back cs h t =
      let s = opened_session machine name false in
      let c = came cs (emptied s []) b (texts_for ls) h (record {
        texts = ap (cut start []) (t ∙ written_joined ls) ∙ cut_wholes (texts_for ls) (texts_whole ls a);
        short = omega arith;
        early = inl refl;
        accepted = called.0;
      }) in
      let e : state_behind plugin (just_opened machine name b) cs ≡ one_call.after s b calls = ap₂ state_of c.session c.buffers in
      let l = subst (Left machine name b ls) (sym e) left in
      record { accepted = c.accepted; phase = l.phase; entries = l.entries; others = l.others }

-- ---- a file

valid_arguments : (ls : List (List ℕ)) → All Argument (valid_in ls)
unfolding All valid_in
valid_arguments [] = tt
valid_arguments (l ∷ ls) = go (valid_arguments ls) (kind_of l) refl
  where
    go : All Argument (valid_in ls) → (k : Kind) → kind_of l ≡ k → All Argument (valid_by k l (valid_in ls))
    go a skipped e = a
    go a secret_key e = a
    go a (invalid n) e = a
    go a valid e = (valid_argument l e, a)

-- an accepted file: not over 64, and all of its commands written
record Wrote (t out : List ℕ) (n : ℕ) : Type 0 where
  few : length (valid_in (lines t)) ≤ 64
  text : take n (file_buffer t out) ≡ transcript_of t

wrote : (t out : List ℕ) (n : ℕ) → file_answer t out ≡ bytes n → Wrote t out n
wrote t out n e = go (is_over t) refl (overflows (transcript_of t) out) refl e
  where
    go : (o : Bool) → is_over t ≡ o → (f : Bool) → overflows (transcript_of t) out ≡ f → pick o (refused 8) (pick f (refused 15) (bytes (length (transcript_of t)))) ≡ bytes n → Wrote t out n
    go true p f q h = let z : ◌≡◌ {A = ℕ} 0 1 = cc in absurd (omega arith)
    go false p true q h = let z : ◌≡◌ {A = ℕ} 0 1 = cc in absurd (omega arith)
    go false p false q h =
        let m : length (transcript_of t) ≡ n = cc in
        record {
          few = ltb-false 64 (length (valid_in (lines t))) p;
          text = ap (λ n. take n (file_buffer t out)) (sym m)
              ∙ ap (λ o. take (length (transcript_of t)) (pick o out (filled (transcript_of t) out))) p
              ∙ ap (λ f. take (length (transcript_of t)) (pick f out (transcript_of t ++ drop (length (transcript_of t)) out))) q
              ∙ take-append_seam (transcript_of t) (drop (length (transcript_of t)) out);
        }

-- Of an accepted file, for either machine, every plugin name and an identity buffer at least as long as the valid lines together: a plugin session just opened that
-- receives what was written, cut into chunks in any way and whatever their output buffers, accepts all of it, is in phase two, and its identity table is the valid
-- lines in order, byte for byte, with the marks of its name; all other tables are empty.
pub file_back : (t out : List ℕ) (n : ℕ) → file_answer t out ≡ bytes n → (machine : Machine) (name : List ℕ) (b : Buffers) → length (joined (valid_in (lines t)) []) ≤ length b.first.identities →
    (cs : List Piece) → All (λ c. is_reply c ≡ false) cs → text_in cs ≡ take n (file_buffer t out) → ReadsBack machine name b cs (valid_in (lines t))
file_back t out n e machine name b room cs h c =
    let w = wrote t out n e in
    cut_back machine name b (valid_in (lines t)) (valid_arguments (lines t)) w.few room cs h (c ∙ w.text)
