-- Reading: what the window and the body's size come to.
use Prim.Native.Nat.{ℕ, ◌+◌, ◌-◌, ◌<◌, ◌≤◌, min}
use mathlib.Core.Path.{◌≡◌, refl, sym, ◌∙◌}
use mathlib.Core.Bool.{Bool, true, false}
use mathlib.Core.List.{List}
use lib.Dec.{ltb}
use lib.ListN.{length, take, drop, length-drop}
use lib.Seq.{length-take-le, take_all}
use native.Mathlib.Omega.{arith}
use native.Mathlib.Decide.{dec_le, dec_lt}
use borrow.Author.Tests.{lt-ltb, le-ltb}
use Rattle.refusal.specs.Pick.{pick}
use Rattle.refusal.proofs.Laws.Run.{run_front}
use Rattle.strict_base64.specs.Tables.{body_size}
use Rattle.strict_base64.proofs.Laws.Lines.{body_length}
use Rattle.stanza.specs.Automaton.{Scan, bad, short, whole}
use Rattle.stanza.specs.Reading.{stanza, refused, found, is_not_lf, line_end}

-- the window is the first 8,192 bytes
pub window_is : (t : List ℕ) (n : ℕ) → n ≡ min 8192 (length t) → take 8192 t ≡ take n t
window_is t n e =
    elim (dec_le (length t) 8192) [
      | yes h ↦ take_all 8192 t h ∙ sym (take_all n t (omega arith))
      | no h ↦ let f : n ≡ 8192 = omega arith in rw f
    ]

-- the window is short exactly if the text is
window_test : (t : List ℕ) (n : ℕ) → n ≡ min 8192 (length t) → ltb n 8192 ≡ ltb (length t) 8192
window_test t n e =
    elim (dec_lt (length t) 8192) [
      | yes h ↦ rw (lt-ltb (length t) 8192 h, lt-ltb n 8192 (omega arith))
      | no h ↦ rw (le-ltb (length t) 8192 (omega arith), le-ltb n 8192 (omega arith))
    ]

pub pick_refused : (b : Bool) → refused (pick b 2 3) ≡ pick b (refused 2) (refused 3)
pick_refused true = refl
pick_refused false = refl

-- the fault of a stanza that has not ended goes by the window's length
pub short_is : (t : List ℕ) (n : ℕ) → n ≡ min 8192 (length t) → refused (pick (ltb n 8192) 2 3) ≡ pick (ltb (length t) 8192) (refused 2) (refused 3)
short_is t n e = rw (window_test t n e) (pick_refused (ltb (length t) 8192))

-- what a scan of the window says does not depend on what stands behind the window
pub found_window : (t : List ℕ) (n : ℕ) → n ≡ min 8192 (length t) → (x : Scan) → found (length (take n t)) (take n t) x ≡ found (length t) (take n t) x
unfolding found
found_window t n e bad = refl
found_window t n e short = rw (length-take-le n t (omega arith), window_test t n e)
found_window t n e (whole k) = refl

-- the size of a body whose first line ends at e, in k bytes
pub found_whole : (m : ℕ) (w : List ℕ) (e k : ℕ) → line_end w ≡ e → e < k → k ≤ length w → found m w (whole k) ≡ stanza e (body_size (k - e - 1)) k
unfolding found
found_whole m w e k p h l =
    let q : line_end (take k w) ≡ e = run_front is_not_lf k w (omega arith) ∙ p in
    let s : length (drop (e + 1) (take k w)) ≡ k - e - 1 = simp (length-drop, length-take-le k w l) (omega arith) in
    rw (p, q, body_length (drop (e + 1) (take k w)), s)
