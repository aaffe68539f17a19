-- Lists of calls of any shape. A call takes the first stanza of its text: it does what it does with that stanza alone. Behind the end nothing is accepted.
use Prim.Native.Nat.{ℕ, zero, suc, ◌+◌, ◌≤◌}
use mathlib.Core.Path.{◌≡◌, refl, sym, ap, ap₂, ◌∙◌, subst, subst₂, fun_ext}
use mathlib.Core.Bool.{Bool, true, false, false≢true}
use mathlib.Core.List.{List, [], ◌∷◌, ◌++◌, map, append-nil}
use lib.Dec.{eqb}
use lib.ListN.{length, take, drop}
use lib.Pow.{are_bytes}
use lib.Seq.{length-take-le}
use Rattle.strict_base64.specs.Lines.{body_of}
use native.Mathlib.Nat.{add-zero, add-suc}
use native.Mathlib.Numerals.{add-one}
use native.Mathlib.Omega.{arith}
use Rattle.refusal.specs.Pick.{pick}
use Rattle.refusal.proofs.Laws.Booleans.{and_true}
use Rattle.stanza.specs.Arguments.{is_line}
use Rattle.stanza.specs.Grammar.{stanza_text}
use Rattle.stanza.specs.Reading.{Reading, stanza, refused, read_first}
use Rattle.stanza.specs.Writing.{is_writable}
use Rattle.stanza.proofs.Laws.Arguments.{line_nil}
use Rattle.stanza.proofs.Laws.Exact.{taken_iff}
use Rattle.stanza.proofs.Laws.RoundTrip.{read_written, read_arguments, read_body}
use Rattle.phase_one.specs.Turns.{turn_one}
use Rattle.session.specs.declared.phases.Phase.TheVariants.{Ended}
use Rattle.session.specs.Session.{Session}
use Rattle.conversation.specs.Calls.{Call, receive, send, receive_two, reply, send_two, respond, received_outcome, received_two_outcome, Outcome, outcome, output_in, after, numbers, AllZero, Accepted, line_read, body_read}
use Rattle.conversation.specs.Kinds.{Buffers}
use Rattle.conversation.specs.Phases.{Whole, line_in, body_in, Supply, skip, lending, LongEnough}
use Rattle.conversation.specs.Receiving as receiving
use Rattle.conversation.specs.ReceivingTwo as receiving_two
use Rattle.conversation.specs.Shapes.{BeginsWhole}
use Rattle.conversation.specs.TurnsTwo.{turn_two}
use Rattle.conversation.proofs.Laws.Accepted.{accepted}
use Rattle.conversation.proofs.Laws.WrittenRead.{received_again}

-- ---- the first stanza of a text

-- a text that can be written begins with a whole stanza
pub begins_whole : (t : List ℕ) → is_writable (line_in t) (body_in t) ≡ true → BeginsWhole t
begins_whole t h = by (read_first t) refl
  where
    by : (r : Reading) → read_first t ≡ r → BeginsWhole t
    by (stanza e n k) q = record { line = e; body = n; taken = k; read = q }
    by (refused n) q =
        let e : is_line [] ≡ true = ap (λ r. is_line (line_read r t)) (sym q) ∙ (and_true (is_line (line_in t)) _ h).0 in
        absurd (false≢true (sym line_nil ∙ e))

-- it alone; a text that begins with none stays
abbrev first_by : Reading → List ℕ → List ℕ
first_by (stanza e n k) t = take k t
first_by (refused n) t = t

abbrev pub first_of_text : List ℕ → List ℕ
first_of_text t = first_by (read_first t) t

-- what it is read as
record Alone (t : List ℕ) : Type 0 where
  whole : Whole (first_of_text t)
  line : line_in (first_of_text t) ≡ line_in t
  body : body_in (first_of_text t) ≡ body_in t

-- the text of arguments and a body
reads : (l y : List ℕ) → are_bytes y ≡ true → is_writable l y ≡ true → (u : List ℕ) → stanza_text l y ++ [] ≡ u → Whole u × (line_in u ≡ l) × (body_in u ≡ y)
reads l y a w u e =
    let q : read_first u ≡ stanza (length l + 3) (length y) (length (stanza_text l y)) = ap read_first (sym e) ∙ read_written l y [] a w in
    let n : length (stanza_text l y) ≡ length u = ap length (sym (append-nil (stanza_text l y)) ∙ e) in (
      record { line = length l + 3; body = length y; read = q ∙ ap (stanza (length l + 3) (length y)) n },
      ap (λ r. line_read r u) q ∙ ap (λ v. drop 3 (take (length l + 3) v)) (sym e) ∙ read_arguments l y [],
      ap (λ r. body_read r u) q ∙ ap (λ v. body_of (drop (length l + 3 + 1) (take (length (stanza_text l y)) v))) (sym e) ∙ read_body l y [] a,
    )

alone : (t : List ℕ) → BeginsWhole t → Alone t
alone t w =
    let a = received_again t w.line w.body w.taken w.read in
    let e : stanza_text (line_in t) (body_in t) ++ [] ≡ first_of_text t = append-nil (stanza_text (line_in t) (body_in t)) ∙ sym a.again ∙ ap (λ r. first_by r t) (sym w.read) in
    let h = reads (line_in t) (body_in t) a.bytes a.writable (first_of_text t) e in
    record { whole = h.0; line = h.1; body = h.2 }

module _ (t : List ℕ) (w : BeginsWhole t) where
  pub first_whole : Whole (first_of_text t)
  first_whole = (alone t w).whole

-- its arguments' text and its body are those of the text
module _ (t : List ℕ) where
  both : (r : Reading) → read_first t ≡ r → (line_in (first_by r t) ≡ line_in t) × (body_in (first_by r t) ≡ body_in t)
  both (stanza e n k) q =
      let a = alone t (record { line = e; body = n; taken = k; read = q }) in
      let f : first_of_text t ≡ take k t = ap (λ r. first_by r t) q in
      (ap line_in (sym f) ∙ a.line, ap body_in (sym f) ∙ a.body)
  both (refused n) q = (refl, refl)

  pub first_line_same : line_in (first_of_text t) ≡ line_in t
  first_line_same = (both (read_first t) refl).0

  pub first_body : body_in (first_of_text t) ≡ body_in t
  first_body = (both (read_first t) refl).1

-- ---- a call

-- the same call with the first stanza of its text alone
abbrev pub alone_call : Call → Call
alone_call (receive text) = receive (first_of_text text)
alone_call (send word arguments body out) = send word arguments body out
alone_call (receive_two text out) = receive_two (first_of_text text) out
alone_call (reply r body out) = reply r body out
alone_call (send_two word arguments body out) = send_two word arguments body out
alone_call (respond text out) = respond text out

-- the first stanza is as long as what was taken
taken_length : (t : List ℕ) (e n k : ℕ) → read_first t ≡ stanza e n k → length (take k t) ≡ k
taken_length t e n k q = length-take-le k t ((taken_iff t k).0 (e, n, q)).within

-- a conditional of which one branch is exchanged for one with the same image
other_branch : {X Y : Type 0} (f : X → Y) (c : Bool) (x y z : X) → f x ≡ f y → f (pick c x z) ≡ f (pick c y z)
other_branch f true x y z e = e
other_branch f false x y z e = refl

module _ (s : Session) (b : Buffers) where
  -- in phase one
  abbrev one_out : receiving.Received → Outcome
  one_out r = received_outcome b.second r

  one_as : (u : List ℕ) (w : BeginsWhole u) → receiving.received_as (read_first u) s u b.first ≡ receiving.received_stanza s b.first (line_in u) (body_in u) w.taken
  one_as u w = subst (λ r. receiving.received_as r s u b.first ≡ receiving.received_stanza s b.first (line_read r u) (body_read r u) w.taken) (sym w.read) refl

  one_alone : (t : List ℕ) (r : Reading) → read_first t ≡ r → outcome s b (receive (first_by r t)) ≡ outcome s b (receive t)
  unfolding receiving.received
  one_alone t (stanza e n k) q =
      let w : BeginsWhole t = record { line = e; body = n; taken = k; read = q } in
      let u = take k t in
      let a = alone t w in
      let f : first_of_text t ≡ u = ap (λ r. first_by r t) q in
      let v : Whole u = subst Whole f a.whole in
      let l : line_in u ≡ line_in t = ap line_in (sym f) ∙ a.line in
      let y : body_in u ≡ body_in t = ap body_in (sym f) ∙ a.body in
      other_branch one_out (eqb (turn_one s.phase) 0) _ _ _
      (ap one_out (one_as u (record { line = v.line; body = v.body; taken = length u; read = v.read }) ∙ ap₂ (λ l y. receiving.received_stanza s b.first l y (length u)) l y)
      ∙ ap (λ j. one_out (receiving.received_stanza s b.first (line_in t) (body_in t) j)) (taken_length t e n k q) ∙ ap one_out (sym (one_as t w)))
  one_alone t (refused n) q = refl

  -- in phase two
  module _ (out : List ℕ) where
    abbrev two_out : receiving_two.Received → Outcome
    two_out r = received_two_outcome b.first r

    two_as : (u : List ℕ) (w : BeginsWhole u) → receiving_two.received_as (read_first u) s u b.second out ≡ receiving_two.received_stanza s b.second out (line_in u) (body_in u) w.taken
    two_as u w = subst (λ r. receiving_two.received_as r s u b.second out ≡ receiving_two.received_stanza s b.second out (line_read r u) (body_read r u) w.taken) (sym w.read) refl

    two_alone : (t : List ℕ) (r : Reading) → read_first t ≡ r → outcome s b (receive_two (first_by r t) out) ≡ outcome s b (receive_two t out)
    unfolding receiving_two.received
    two_alone t (stanza e n k) q =
        let w : BeginsWhole t = record { line = e; body = n; taken = k; read = q } in
        let u = take k t in
        let a = alone t w in
        let f : first_of_text t ≡ u = ap (λ r. first_by r t) q in
        let v : Whole u = subst Whole f a.whole in
        let l : line_in u ≡ line_in t = ap line_in (sym f) ∙ a.line in
        let y : body_in u ≡ body_in t = ap body_in (sym f) ∙ a.body in
        other_branch two_out (eqb (turn_two s.phase) 0) _ _ _
        (ap two_out (two_as u (record { line = v.line; body = v.body; taken = length u; read = v.read }) ∙ ap₂ (λ l y. receiving_two.received_stanza s b.second out l y (length u)) l y)
        ∙ ap (λ j. two_out (receiving_two.received_stanza s b.second out (line_in t) (body_in t) j)) (taken_length t e n k q) ∙ ap two_out (sym (two_as t w)))
    two_alone t (refused n) q = refl

-- it does the same
pub same_outcome : (s : Session) (b : Buffers) (c : Call) → outcome s b (alone_call c) ≡ outcome s b c
same_outcome s b (receive text) = one_alone s b text (read_first text) refl
same_outcome s b (send word arguments body out) = refl
same_outcome s b (receive_two text out) = two_alone s b out text (read_first text) refl
same_outcome s b (reply r body out) = refl
same_outcome s b (send_two word arguments body out) = refl
same_outcome s b (respond text out) = refl

-- lent another output buffer too
same_lending : (big : List ℕ) (c : Call) → lending big (alone_call c) ≡ alone_call (lending big c)
same_lending big (receive text) = refl
same_lending big (send word arguments body out) = refl
same_lending big (receive_two text out) = refl
same_lending big (reply r body out) = refl
same_lending big (send_two word arguments body out) = refl
same_lending big (respond text out) = refl

same_output : (c : Call) → output_in (alone_call c) ≡ output_in c
same_output (receive text) = refl
same_output (send word arguments body out) = refl
same_output (receive_two text out) = refl
same_output (reply r body out) = refl
same_output (send_two word arguments body out) = refl
same_output (respond text out) = refl

-- ---- lists of calls

pub same_numbers : (s : Session) (b : Buffers) (cs : List Call) → numbers s b (map alone_call cs) ≡ numbers s b cs
unfolding numbers
same_numbers s b [] = refl
same_numbers s b (c ∷ cs) =
    ap (λ o. o.number ∷ numbers o.session o.buffers (map alone_call cs)) (same_outcome s b c)
    ∙ ap (λ ns. (outcome s b c).number ∷ ns) (same_numbers (outcome s b c).session (outcome s b c).buffers cs)

pub same_after : (s : Session) (b : Buffers) (cs : List Call) → after s b (map alone_call cs) ≡ after s b cs
unfolding after
same_after s b [] = refl
same_after s b (c ∷ cs) =
    ap (λ o. after o.session o.buffers (map alone_call cs)) (same_outcome s b c) ∙ same_after (outcome s b c).session (outcome s b c).buffers cs

pub same_enough : (s : Session) (b : Buffers) (cs : List Call) → LongEnough s b cs → LongEnough s b (map alone_call cs)
unfolding LongEnough
same_enough s b [] l = tt
same_enough s b (c ∷ cs) l = (
  λ big. subst₂ (λ m n. m ≤ n) (ap length (sym (ap (λ o. take o.size o.output) (ap (outcome s b) (same_lending big c) ∙ same_outcome s b (lending big c))))) (ap length (sym (same_output c))) (l.0 big),
  subst (λ o. LongEnough o.session o.buffers (map alone_call cs)) (sym (same_outcome s b c)) (same_enough (outcome s b c).session (outcome s b c).buffers cs l.1),
)

-- ---- behind the end

-- an accepted call is a call of the phase that it is in, and the end has none
ended_refuses : (s : Session) (b : Buffers) (c : Call) → s.phase ≡ Ended → (outcome s b c).number ≡ 0 → ⊥
ended_refuses s b (receive text) e z = let q = (accepted s b (receive text) z).applied.turn in let n : ◌≡◌ {A = ℕ} 0 1 = cc in omega arith
ended_refuses s b (send word arguments body out) e z = let q = (accepted s b (send word arguments body out) z).applied.turn in let n : ◌≡◌ {A = ℕ} 0 1 = cc in omega arith
ended_refuses s b (receive_two text out) e z = let q = (accepted s b (receive_two text out) z).turn in let n : ◌≡◌ {A = ℕ} 0 1 = cc in omega arith
ended_refuses s b (reply r body out) e z = let q = (accepted s b (reply r body out) z).turn in let n : ◌≡◌ {A = ℕ} 0 1 = cc in omega arith
ended_refuses s b (send_two word arguments body out) e z = let q = (accepted s b (send_two word arguments body out) z).turn in let n : ◌≡◌ {A = ℕ} 0 1 = cc in omega arith
ended_refuses s b (respond text out) e z = let q = (accepted s b (respond text out) z).1.turn in let n : ◌≡◌ {A = ℕ} 0 1 = cc in omega arith

pub ended_none : (s : Session) (b : Buffers) (cs : List Call) → s.phase ≡ Ended → Accepted s b cs → cs ≡ []
unfolding AllZero numbers
ended_none s b [] e a = refl
ended_none s b (c ∷ cs) e a = absurd (ended_refuses s b c e a.0)

pub append_none : {X : Type 0} (xs ys : List X) → xs ++ ys ≡ [] → (xs ≡ []) × (ys ≡ [])
append_none [] ys e = (refl, e)
append_none (x ∷ xs) ys e = let n : ◌≡◌ {A = ℕ} 0 1 = cc in absurd (omega arith)

-- ---- output buffers, one for each call

-- one more in front
unfoldable pub lent_first : List ℕ → Supply → Supply
lent_first out outs zero = out
lent_first out outs (suc i) = outs i

module _ (out : List ℕ) (outs : Supply) where
  pub lent_one : skip 1 (lent_first out outs) ≡ outs
  unfolding lent_first
  lent_one = fun_ext (λ i. ap (lent_first out outs) (add-one i))

  pub lent_more : (n : ℕ) → skip (suc n) (lent_first out outs) ≡ skip n outs
  unfolding lent_first
  lent_more n = fun_ext (λ i. ap (lent_first out outs) (add-suc i n))

pub skip_none : (outs : Supply) → skip 0 outs ≡ outs
skip_none outs = fun_ext (λ i. ap outs (add-zero i))
