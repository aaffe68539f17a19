-- By whether bytes are read, whether a stanza is unfinished, and what reading on gives.
use Prim.Native.Nat.{ℕ, min}
use mathlib.Core.Path.{◌≡◌, refl, sym, ap, ◌∙◌}
use mathlib.Core.Bool.{true, false}
use mathlib.Core.List.{List}
use borrow.Author.Tests.{not-true, not-false}
use Rattle.refusal.specs.Pick.{pick}
use Rattle.stanza.specs.Resuming.{Continued, place_said, continued_said, continued, whole}
use Rattle.stanza.specs.declared.places.Place.{Place}
use Rattle.chunks.specs.Taking.{Turn}
use Rattle.intake.specs.Fronts.{is_between, is_reading, front_of, front_in, input_behind}
use Rattle.intake.specs.Turns.{turn_said}
use Rattle.intake.proofs.keeping.read_front.Goals as goal

module _ (t : Turn) (p : Place) (k : ℕ) (x : List ℕ) where
  -- nothing is read
  none_read : is_reading t ≡ false → whole 0 ≡ front_in t p k x
  none_read h = sym (ap (λ f. pick f (front_of p k x) (whole 0)) h)

  module _ (read : is_reading t ≡ true) (n : ℕ) (e : n ≡ k) where
    -- by whether one is unfinished
    by_between : (r : Continued) → pick (is_between p n) (whole 0) (continued (place_said p) n x) ≡ r → front_in t p k x ≡ r
    by_between r h = ap (λ f. pick f (front_of p k x) (whole 0)) read ∙ ap (λ n. front_of p n x) (sym e) ∙ h

    none_unfinished : is_between p n ≡ true → whole 0 ≡ front_in t p k x
    none_unfinished h = sym (by_between (whole 0) (ap (λ f. pick f (whole 0) (continued (place_said p) n x)) h))

    one_unfinished : (r : Continued) → is_between p n ≡ false → r ≡ continued (place_said p) n x → r ≡ front_in t p k x
    one_unfinished r h q = q ∙ sym (by_between (continued (place_said p) n x) (ap (λ f. pick f (whole 0) (continued (place_said p) n x)) h))

pub returns-then-not-is_reading : goal.returns-then-not-is_reading
returns-then-not-is_reading c = let a = c.args in
    record {
      front = none_read (turn_said a.turn) a.reading (min a.kept 8191) a.chunk.now (sym c.is_reading.ensures ∙ not-true c.is_reading.result c.if-not-is_reading.true-raw);
      input = refl;
    }

pub returns-then-is_between : goal.returns-then-is_between
returns-then-is_between c = let a = c.args in
    record {
      front = none_unfinished (turn_said a.turn) a.reading (min a.kept 8191) a.chunk.now (sym c.is_reading.ensures ∙ not-false c.is_reading.result c.if-not-is_reading.false-raw) _ c.kept_of-at.ensures (sym c.is_between.ensures ∙ c.if-is_between.true);
      input = refl;
    }

pub returns : goal.returns
returns c = let a = c.args in
    let f = c.read_more in
    record {
      front = one_unfinished (turn_said a.turn) a.reading (min a.kept 8191) a.chunk.now (sym c.is_reading.ensures ∙ not-false c.is_reading.result c.if-not-is_reading.false-raw) _ c.kept_of-at.ensures (continued_said f.result) (sym c.is_between.ensures ∙ c.if-is_between.false) f.ensures.front;
      input = f.ensures.input ∙ ap (λ n. input_behind (continued_said f.result) n a.chunk.now a.input.now) c.kept_of-at.ensures;
    }
