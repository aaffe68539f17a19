-- Order between strangers means nothing, in phase one: two rearrangements of a phase are both accepted, with equal tables and answers, or both refused.
use Prim.Native.Nat.{ℕ, ◌≤◌}
use mathlib.Core.Path.{◌≡◌, refl, sym, ap, ap₂, ◌∙◌, subst}
use mathlib.Core.Bool.{Bool, true, false, true≢false}
use mathlib.Core.Logic.{◌↔◌}
use mathlib.Core.List.Permᴰ
use mathlib.Core.List.{List, [], ◌∷◌, ◌++◌, map, map-append, append_assoc}
use lib.ListN.{length}
use Rattle.refusal.specs.Pick.{pick}
use Rattle.tables.specs.Tables.{view}
use Rattle.session.specs.declared.opening.Machine.{Machine}
use Rattle.phase_one.specs.Commands.{WordOne, add_recipient, add_identity, wrap_file_key, recipient_stanza, done_command, other_word, word_in, row_command}
use Rattle.phase_one.specs.PhaseOne.{BuffersOne, buffers_of}
use Rattle.session.specs.Tables.{opened_tables}
use Rattle.phase_one.specs.Views.{KindOne, recipients, headers, buffer_of}
use Rattle.session.specs.Session.{Session, opened_session}
use Rattle.conversation.specs.Kinds.{Buffers, second, view_of, of_file}
use Rattle.conversation.specs.PhaseTwo as two
use Rattle.conversation.specs.Calls.{receive, outcome, written, State, state_of, after, Accepted}
use Rattle.conversation.specs.Phases.{Part, All, keep, line_in, body_in, word_of, is_named, command_of, rows_from, is_of, one_part, Block, Phase, blocks_of, Quiet, IsPhase, Supply, skip, reply_calls, calls_of, written_in, responses_to, Starts, SameLengths, SameStart, is_kept, of_kind, is_in, Rearranged, SameOutcome, texts_of}
use Rattle.conversation.specs.Allowed.{is_right, rows_in, slots_of, bytes_of, Rising, Distinct, Allowed}
use Rattle.conversation.proofs.Laws.Lists.{all_append, all_permuted, all_kept, all_map, keep_map}
use Rattle.conversation.proofs.Laws.Limits.{grown_rows}
use Rattle.conversation.proofs.Laws.Steps.{grown, payload}
use Rattle.conversation.proofs.Laws.AllowedOne.{Holds, accepted_iff, accepted_tables}

-- ---- the rows of texts

module _ (machine : Machine) (name : List ℕ) (k : KindOne) where
  rows_append : (xs ys : List (List ℕ)) → rows_in machine name k (xs ++ ys) ≡ rows_in machine name k xs ++ rows_in machine name k ys
  unfolding rows_in
  rows_append [] ys = refl
  rows_append (x ∷ xs) ys = ap (λ r. rows_from machine name k x ++ r) (rows_append xs ys) ∙ sym (append_assoc (rows_from machine name k x) (rows_in machine name k xs) (rows_in machine name k ys))

  -- a text makes one row if it is of the kind, else none
  one_rows : (x : List ℕ) (f : Bool) → rows_in machine name k (pick f (x ∷ []) []) ≡ pick f (rows_from machine name k x ++ []) []
  unfolding rows_in
  one_rows x true = refl
  one_rows x false = refl

  rows_kept : (xs : List (List ℕ)) → rows_in machine name k xs ≡ rows_in machine name k (keep (is_of machine name k) xs)
  unfolding rows_in keep
  rows_kept [] = refl
  rows_kept (x ∷ xs) =
      let f = is_of machine name k x in
      let o = grown_rows (grown opened_tables (buffers_of [] [] [] []) (command_of machine name x) (payload machine name x) k) in
      ap₂ (λ r q. r ++ q) (o ∙ sym (one_rows x f)) (rows_kept xs) ∙ sym (rows_append (pick f (x ∷ []) []) (keep (is_of machine name k) xs))

  -- the rows of blocks are those of the kind's own
  strand_rows : (xs : List Block) → rows_in machine name k (map (λ x. x.text) xs) ≡ rows_in machine name k (map (λ x. x.text) (keep (is_in one_part machine name (of_kind k)) xs))
  strand_rows xs = rows_kept (map (λ x. x.text) xs) ∙ ap (rows_in machine name k) (keep_map (λ x. x.text) (is_of machine name k) xs)

-- ---- a command that is not known is right: it is ignored

other_right : (g l : List ℕ) (n : ℕ) (w : WordOne) → is_named w ≡ false → is_right (row_command w g l n) ≡ true
other_right g l n add_recipient h = absurd (true≢false h)
other_right g l n add_identity h = absurd (true≢false h)
other_right g l n wrap_file_key h = absurd (true≢false h)
other_right g l n recipient_stanza h = absurd (true≢false h)
other_right g l n done_command h = absurd (true≢false h)
other_right g l n other_word h = refl

-- a block's command is right
abbrev RightIn : Machine → List ℕ → Block → Type 0
RightIn machine name x = is_right (command_of machine name x.text) ≡ true

unknown_right : (machine : Machine) (name : List ℕ) (x : Block) → is_kept one_part machine x ≡ false → RightIn machine name x
unknown_right machine name x h = other_right name (line_in x.text) (length (body_in x.text)) (word_in machine (word_of x.text)) h

-- ---- rearrangements

module _ (machine : Machine) (name : List ℕ) where
  module _ (p q : Phase) (r : Rearranged one_part machine name p q) where
    -- they make the same rows of each kind
    same_rows : (k : KindOne) → rows_in machine name k (texts_of p) ≡ rows_in machine name k (texts_of q)
    same_rows k =
        let text : Block → List ℕ = λ x. x.text in
        ap (rows_in machine name k) (map-append text p.ahead (p.last ∷ [])) ∙ rows_append machine name k (map text p.ahead) (p.last.text ∷ [])
        ∙ ap₂ (λ xs y. xs ++ rows_in machine name k (y.text ∷ []))
        (strand_rows machine name k p.ahead ∙ ap (λ xs. rows_in machine name k (map text xs)) (r.same_order (of_kind k)) ∙ sym (strand_rows machine name k q.ahead)) r.same_last
        ∙ sym (rows_append machine name k (map text q.ahead) (q.last.text ∷ [])) ∙ ap (rows_in machine name k) (sym (map-append text q.ahead (q.last ∷ [])))

    same_right : All (RightIn machine name) (blocks_of p) → All (RightIn machine name) (blocks_of q)
    same_right h =
        let P : Block → Type 0 = RightIn machine name in
        let a = (all_append P p.ahead (p.last ∷ [])).0 h in
        let known : (xs : List Block) → All P xs ↔ All P (keep (is_kept one_part machine) xs) = λ xs. all_kept P (is_kept one_part machine) (unknown_right machine name) xs in
        (all_append P q.ahead (q.last ∷ [])).1 (
          (known q.ahead).1 (all_permuted P r.permuted ((known p.ahead).0 a.0)),
          subst (λ y. All P (y ∷ [])) r.same_last a.1,
        )

    -- with buffers of equal lengths the one is allowed where the other is
    same_allowed : (b c : BuffersOne) → ((k : KindOne) → length (buffer_of k b) ≡ length (buffer_of k c)) → Allowed machine name b (texts_of p) → Allowed machine name c (texts_of q)
    same_allowed b c l a =
        let P : List ℕ → Type 0 = λ t. is_right (command_of machine name t) ≡ true in
        record {
          right = (all_map (λ x. x.text) P (blocks_of q)).1 (same_right ((all_map (λ x. x.text) P (blocks_of p)).0 a.right));
          slots = λ k. subst (λ rs. length rs ≤ slots_of k) (same_rows k) (a.slots k);
          bytes = λ k. subst (λ n. bytes_of (rows_in machine name k (texts_of q)) ≤ n) (l k) (subst (λ rs. bytes_of rs ≤ length (buffer_of k b)) (same_rows k) (a.bytes k));
          rising = subst Rising (same_rows headers) a.rising;
          distinct = subst Distinct (same_rows recipients) a.distinct;
        }

  -- in either phase a rearrangement is one both ways
  pub turned : (part : Part) (p q : Phase) → Rearranged part machine name p q → Rearranged part machine name q p
  turned part p q r = record { same_last = sym r.same_last; permuted = Permᴰ.symm r.permuted; same_order = λ k. sym (r.same_order k) }

-- ---- nothing is written

-- each call of a phase writes nothing, whatever the session
quiet_written : (machine : Machine) (screen : Bool) (s : Session) (b : Buffers) (outs : Supply) (xs : List Block) → All (Quiet one_part) xs →
    written_in one_part s b outs xs ≡ map (responses_to one_part machine screen) xs
unfolding All written_in written after reply_calls
quiet_written machine screen s b outs [] h = refl
quiet_written machine screen s b outs (x ∷ xs) h =
    let o = outcome s b (receive x.text) in
    ap (λ rs. let cs = receive x.text ∷ reply_calls (skip 1 outs) rs in written s b cs ∷ written_in one_part (after s b cs).session (after s b cs).buffers (skip (length rs) (skip 1 outs)) xs) h.0
    ∙ ap (λ w. ([] ∷ []) ∷ w) (quiet_written machine screen o.session o.buffers (skip 0 (skip 1 outs)) xs h.1)

-- ---- both

-- phase two's tables show nothing yet
late_none : (machine : Machine) (name : List ℕ) (ts : List (List ℕ)) (x : State) → Holds machine name ts x → (k : two.KindTwo) → view_of (second k) x.session.tables x.buffers ≡ []
late_none machine name ts x h two.errors = ap (λ t. view t x.buffers.second.errors) h.errors
late_none machine name ts x h two.stanzas = ap (λ t. view t x.buffers.second.stanzas) h.stanzas
late_none machine name ts x h two.returned = ap (λ t. view t x.buffers.second.returned) h.returned

module _ (machine : Machine) (name : List ℕ) where
  abbrev start : Session
  start = opened_session machine name false

  same_accepted : (b c : Buffers) → SameLengths one_part b c → (p q : Phase) → IsPhase one_part p → IsPhase one_part q → Rearranged one_part machine name p q → (outs outs' : Supply) →
      Accepted start b (calls_of one_part outs (blocks_of p)) → Accepted start c (calls_of one_part outs' (blocks_of q))
  same_accepted b c l p q hp hq r outs outs' a =
      (accepted_iff machine name false c outs' q hq).1 (same_allowed machine name p q r b.first c.first l ((accepted_iff machine name false b outs p hp).0 a))

  same_outcome : (b c : Buffers) → SameLengths one_part b c → (p q : Phase) → IsPhase one_part p → IsPhase one_part q → Rearranged one_part machine name p q → (outs outs' : Supply) →
      SameOutcome one_part (state_of start b) (state_of start c) p q outs outs'
  same_outcome b c l p q hp hq r outs outs' =
      let forth = same_accepted b c l p q hp hq r outs outs' in
      record {
        accepted = (forth, same_accepted c b (λ k. sym (l k)) q p hq hp (turned machine name one_part p q r) outs' outs);
        tables = λ a.
            let x = accepted_tables machine name false b outs p hp a in
            let y = accepted_tables machine name false c outs' q hq (forth a) in
            let end = after start b (calls_of one_part outs (blocks_of p)) in
            let end' = after start c (calls_of one_part outs' (blocks_of q)) in
            let late : (k : two.KindTwo) → view_of (second k) end.session.tables end.buffers ≡ view_of (second k) end'.session.tables end'.buffers =
            λ k. late_none machine name (texts_of p) end x k ∙ sym (late_none machine name (texts_of q) end' y k) in
            record {
              views = λ k. x.views k ∙ same_rows machine name p q r k ∙ sym (y.views k);
              errors = late two.errors;
              stanzas = λ f. ap (of_file f) (late two.stanzas);
              returned = λ f. ap (of_file f) (late two.returned);
            };
        responses = λ a. (quiet_written machine false start b outs (blocks_of p) hp.quiet, quiet_written machine false start c outs' (blocks_of q) hq.quiet);
      }

-- demand 3 for phase one: received by sessions just opened, with equal settings and buffers of equal lengths, a phase and a rearrangement of it are both accepted, with
-- equal tables and nothing written, or both refused
pub order_one : (x y : State) → Starts one_part x.session → Starts one_part y.session → SameStart one_part x y → (p q : Phase) → IsPhase one_part p → IsPhase one_part q →
    Rearranged one_part x.session.machine x.session.name p q → (outs outs' : Supply) → SameOutcome one_part x y p q outs outs'
order_one x y sx sy same p q hp hq r outs outs' =
    let m = x.session.machine in
    let g = x.session.name in
    let sy' : opened_session m g false ≡ y.session = ap₂ (λ m g. opened_session m g false) same.machine same.name ∙ sym sy in
    subst (λ s. SameOutcome one_part x (state_of s y.buffers) p q outs outs') sy'
    (subst (λ s. SameOutcome one_part (state_of s x.buffers) (state_of (opened_session m g false) y.buffers) p q outs outs') (sym sx)
    (same_outcome m g x.buffers y.buffers same.lengths p q hp hq r outs outs'))
