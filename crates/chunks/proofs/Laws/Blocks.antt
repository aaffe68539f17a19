-- A phase's blocks, a stanza to a chunk and each reply directly behind its command, run as the calls of one stanza do: call by call they are alike.
use Prim.Native.Nat.{ℕ}
use mathlib.Core.Path.{◌≡◌, refl, sym, ap, ap₂, subst, ◌∙◌}
use mathlib.Core.Bool.{Bool, true, false}
use mathlib.Core.List.{List, [], ◌∷◌, ◌++◌, map}
use lib.Dec.{eqb}
use borrow.Author.Tests.{eqb-true, eqb-false}
use Rattle.refusal.specs.Pick.{pick}
use Rattle.refusal.proofs.Laws.Booleans.{cases}
use Rattle.session.specs.Session.{Session, closed}
use Rattle.session.specs.Phases.{closes}
use Rattle.phase_one.specs.PhaseOne as one
use Rattle.conversation.specs.Calls as one_call
use Rattle.conversation.specs.Calls.{Call, receive, outcome}
use Rattle.conversation.specs.Kinds.{Buffers}
use Rattle.conversation.proofs.Laws.Accepted.{accepted}
use Rattle.conversation.proofs.Laws.Refusals.{refusal}
use Rattle.conversation.specs.Phases.{line_in, body_in, All, Whole, Part, one_part, two_part, Reply, Block, Quiet, reply_calls, block_calls, calls_of}
use Rattle.chunks.specs.Taking.{End, client, plugin, ample, Intake, emptied, joined}
use Rattle.chunks.specs.Orders.{reply_alone, uncut_calls, end_of, amples}
use Rattle.chunks.specs.Uncut as pieces
use Rattle.chunks.specs.Uncut.{Piece, outcome_of, alone, is_waiting}
use Rattle.chunks.proofs.Laws.Stanzas.{after_undue}
use Rattle.chunks.proofs.Laws.Singles.{Alike, chunk_client, chunk_plugin, reply_single}

-- ---- two lists, call by call

module _ (e : End) (Inv : Session → Type 0) where
  -- a chunk or a reply with nothing kept does what the call of one stanza does
  abbrev Agree : Piece → Call → Type 0
  Agree p c = (s : Session) (a : List ℕ) (b : Buffers) → Inv s → Alike (outcome s b c) (outcome_of e (emptied s a) b p) × Inv (outcome s b c).session

  Matched : List Piece → List Call → Type 0
  Matched [] [] = Unit
  Matched [] (c ∷ cs) = ⊥
  Matched (p ∷ ps) [] = ⊥
  Matched (p ∷ ps) (c ∷ cs) = Agree p c × Matched ps cs

  matched_append : (ps qs : List Piece) (cs ds : List Call) → Matched ps cs → Matched qs ds → Matched (ps ++ qs) (cs ++ ds)
  unfolding Matched
  matched_append [] qs [] ds m n = n
  matched_append [] qs (c ∷ cs) ds m n = absurd m
  matched_append (p ∷ ps) qs [] ds m n = absurd m
  matched_append (p ∷ ps) qs (c ∷ cs) ds m n = (m.0, matched_append ps qs cs ds m.1 n)

-- one run as another: the number of each call, what is written, the session and the buffers; nothing is kept
pub record SameAs (e : End) (i : Intake) (b : Buffers) (s : Session) (d : Buffers) (ps : List Piece) (cs : List Call) : Type 0 where
  pub numbers : pieces.numbers e i b ps ≡ one_call.numbers s d cs
  pub written : pieces.written e i b ps ≡ joined (one_call.written s d cs) []
  pub intake : (pieces.after e i b ps).intake ≡ emptied (one_call.after s d cs).session (pieces.after e i b ps).intake.awaited
  pub buffers : (pieces.after e i b ps).buffers ≡ (one_call.after s d cs).buffers

same_cons : (e : End) (i : Intake) (s : Session) (b : Buffers) (p : Piece) (c : Call) (ps : List Piece) (cs : List Call) → Alike (outcome s b c) (outcome_of e i b p) →
    SameAs e (outcome_of e i b p).intake (outcome_of e i b p).buffers (outcome s b c).session (outcome s b c).buffers ps cs → SameAs e i b s b (p ∷ ps) (c ∷ cs)
unfolding pieces.numbers pieces.written pieces.after one_call.numbers one_call.written one_call.after joined
same_cons e i s b p c ps cs a r = record { numbers = ap₂ (λ x y. x ∷ y) a.number r.numbers; written = ap₂ (λ x y. x ++ y) a.written r.written; intake = r.intake; buffers = r.buffers }

matched_same : (e : End) (Inv : Session → Type 0) (ps : List Piece) (cs : List Call) → Matched e Inv ps cs → (s : Session) (a : List ℕ) (b : Buffers) → Inv s → SameAs e (emptied s a) b s b ps cs
unfolding Matched pieces.numbers pieces.written pieces.after one_call.numbers one_call.written one_call.after joined
matched_same e Inv [] [] m s a b k = record { numbers = refl; written = refl; intake = refl; buffers = refl }
matched_same e Inv [] (c ∷ cs) m s a b k = absurd m
matched_same e Inv (p ∷ ps) [] m s a b k = absurd m
matched_same e Inv (p ∷ ps) (c ∷ cs) m s a b k =
    let z = m.0 s a b k in
    let o = outcome_of e (emptied s a) b p in
    let x = outcome s b c in
    same_cons e (emptied s a) s b p c ps cs z.0
    (subst (λ (i : Intake). SameAs e i o.buffers x.session x.buffers ps cs) (sym z.0.intake)
    (subst (λ (d : Buffers). SameAs e (emptied x.session o.intake.awaited) d x.session x.buffers ps cs) (sym z.0.buffers)
    (matched_same e Inv ps cs m.1 x.session o.intake.awaited x.buffers z.1)))

-- ---- a phase's blocks

-- the client's, in any session
abbrev pub Any : Session → Type 0
Any s = Unit

replies_match : (rs : List Reply) → Matched client Any (map reply_alone rs) (reply_calls amples rs)
unfolding Matched reply_calls
replies_match [] = tt
replies_match (r ∷ rs) = (λ s a b k. (reply_single s a b r.response r.body ample, tt), replies_match rs)

client_match : (xs : List Block) → All (λ x. Whole x.text) xs → Matched client Any (uncut_calls xs) (calls_of two_part amples xs)
unfolding Matched All uncut_calls calls_of
client_match [] w = tt
client_match (x ∷ xs) w =
    matched_append client Any (alone x.text ∷ map reply_alone x.replies) (uncut_calls xs) (block_calls two_part amples x) (calls_of two_part amples xs)
    (λ s a b k. (chunk_client s a b x.text w.0, tt), replies_match x.replies) (client_match xs w.1)

-- the plugin's, where no response is due: none is behind a command of phase one
abbrev pub Undue : Session → Type 0
Undue s = is_waiting client s.phase ≡ false

pub received_undue : (s : Session) (b : Buffers) (t : List ℕ) → Undue s → Undue (outcome s b (receive t)).session
received_undue s b t k =
    cases (eqb (outcome s b (receive t)).number 0)
    (λ f. ap (λ (s : Session). is_waiting client s.phase) (accepted s b (receive t) (eqb-true (outcome s b (receive t)).number 0 f)).applied.session ∙ after_undue (one.command_in s.machine s.name (line_in t) (body_in t)))
    (λ f. ap (λ (s : Session). is_waiting client s.phase) (refusal s b (receive t) (eqb-false (outcome s b (receive t)).number 0 f)).session ∙ left (closes (outcome s b (receive t)).number))
  where
    left : (f : Bool) → is_waiting client (pick f (closed s) s).phase ≡ false
    left true = refl
    left false = k

plugin_match : (xs : List Block) → All (λ x. Whole x.text) xs → All (Quiet one_part) xs → Matched plugin Undue (uncut_calls xs) (calls_of one_part amples xs)
unfolding Matched All uncut_calls calls_of reply_calls
plugin_match [] w q = tt
plugin_match (x ∷ xs) w q =
    matched_append plugin Undue (alone x.text ∷ map reply_alone x.replies) (uncut_calls xs) (block_calls one_part amples x) (calls_of one_part amples xs)
    (λ s a b k. (chunk_plugin s a b x.text w.0 k, received_undue s b x.text k), subst (λ rs. Matched plugin Undue (map reply_alone rs) (reply_calls amples rs)) (sym q.0) tt) (plugin_match xs w.1 q.1)

-- the session may receive the phase: at the plugin end no response is due
abbrev pub Ready : Part → Session → Type 0
Ready one_part s = Undue s
Ready two_part s = Unit

-- a phase's blocks run as the calls of one stanza do
pub blocks_same : (part : Part) (s : Session) (b : Buffers) (xs : List Block) → Ready part s → All (λ x. Whole x.text) xs → All (Quiet part) xs → SameAs (end_of part) (emptied s []) b s b (uncut_calls xs) (calls_of part amples xs)
blocks_same one_part s b xs k w q = matched_same plugin Undue (uncut_calls xs) (calls_of one_part amples xs) (plugin_match xs w q) s [] b k
blocks_same two_part s b xs k w q = matched_same client Any (uncut_calls xs) (calls_of two_part amples xs) (client_match xs w) s [] b k
