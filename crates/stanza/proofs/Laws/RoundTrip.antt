-- What is written reads back, with the same arguments and body and the same length; what was read is what would be written again, byte for byte.
use Prim.Native.Nat.{ℕ, suc, ◌+◌, ◌<◌, ◌≤◌}
use mathlib.Core.Path.{◌≡◌, refl, sym, ap, ap₂, ◌∙◌}
use mathlib.Core.Bool.{true, false≢true}
use mathlib.Core.List.{List, [], ◌∷◌, ◌++◌, append_assoc, append-nil}
use lib.Dec.{leb, eqb}
use lib.ListN.{length, take, drop, length-append}
use lib.Pow.{are_bytes}
use lib.Seq.{take-take, take-append_seam, drop_at, length-take-le}
use native.Mathlib.Omega.{arith}
use borrow.Author.Tests.{le-leb, leb-true, eqb-true}
use Rattle.refusal.specs.Run.{all, run, is_graphic}
use Rattle.refusal.proofs.Laws.Run.{run_back, run_stop_append}
use Rattle.refusal.proofs.Laws.Booleans.{and_true, true_and, cases}
use Rattle.strict_base64.specs.Lines.{lines_of, body_of}
use Rattle.strict_base64.proofs.Laws.RoundTrip.{body_lines}
use Rattle.strict_base64.proofs.Laws.Lines.{lines_length}
use Rattle.stanza.specs.Arguments.{is_line}
use Rattle.stanza.specs.Exact.{Taken}
use Rattle.stanza.specs.Grammar.{first_line, stanza_text}
use Rattle.stanza.specs.Reading.{stanza, found, read_first, is_not_lf, line_end, lines_in}
use Rattle.stanza.specs.RoundTrip.{ReadBack, Again}
use Rattle.stanza.specs.Writing.{is_writable}
use Rattle.stanza.proofs.Laws.Arguments.{goes_on, line_cons, line_nil, goes_space, goes_cons}
use Rattle.stanza.proofs.Laws.Automaton.{graphic_not_lf}
use Rattle.stanza.proofs.Laws.Exact.{scan_taken, taken_iff}
use Rattle.stanza.proofs.Laws.Writing.{text_length}

-- ---- where the parts of a stanza's text are

-- no LF in a line
goes_no_lf : (t : List ℕ) → goes_on t ≡ true → all is_not_lf t ≡ true
unfolding all
goes_no_lf [] h = refl
goes_no_lf (b ∷ []) h =
    cases (eqb b 32)
    (λ e. absurd (false≢true (sym (goes_space b [] e ∙ line_nil) ∙ h)))
    (λ e. let g = and_true (is_graphic b) (goes_on []) (sym (goes_cons b [] e) ∙ h) in rw (graphic_not_lf b g.0))
goes_no_lf (b ∷ c ∷ t) h =
    cases (eqb b 32)
    (λ e.
    let l = and_true (is_graphic c) (goes_on t) (sym (goes_space b (c ∷ t) e ∙ line_cons c t) ∙ h) in
    rw (space_not_lf b e, graphic_not_lf c l.0) (goes_no_lf t l.1))
    (λ e. let g = and_true (is_graphic b) (goes_on (c ∷ t)) (sym (goes_cons b (c ∷ t) e) ∙ h) in rw (graphic_not_lf b g.0) (goes_no_lf (c ∷ t) g.1))
  where
    space_not_lf : (b : ℕ) → eqb b 32 ≡ true → is_not_lf b ≡ true
    space_not_lf b e = rw (eqb-true b 32 e)

line_no_lf : (t : List ℕ) → is_line t ≡ true → all is_not_lf t ≡ true
unfolding all
line_no_lf [] h = absurd (false≢true (sym line_nil ∙ h))
line_no_lf (b ∷ t) h = let g = and_true (is_graphic b) (goes_on t) (sym (line_cons b t) ∙ h) in rw (graphic_not_lf b g.0) (goes_no_lf t g.1)

-- the text with something behind it, taken apart
text_is : (l b r : List ℕ) → stanza_text l b ++ r ≡ 45 ∷ 62 ∷ 32 ∷ (l ++ 10 ∷ (lines_of b ++ r))
text_is l b r = ap (λ x. 45 ∷ 62 ∷ 32 ∷ x) (append_assoc (l ++ (10 ∷ [])) (lines_of b) r ∙ append_assoc l (10 ∷ []) (lines_of b ++ r))

line_end_is : (l b r : List ℕ) → is_line l ≡ true → line_end (stanza_text l b ++ r) ≡ length l + 3
unfolding run
line_end_is l b r h = ap line_end (text_is l b r) ∙ ap (λ n. suc (suc (suc n))) (run_stop_append is_not_lf l 10 (lines_of b ++ r) (line_no_lf l h) refl) ∙ omega arith

-- the lines behind the first line
lines_in_is : (l b : List ℕ) → is_line l ≡ true → lines_in (stanza_text l b) ≡ lines_of b
lines_in_is l b h =
    let e : line_end (stanza_text l b) ≡ length l + 3 = ap line_end (sym (append-nil (stanza_text l b))) ∙ line_end_is l b [] h in
    ap (λ n. drop (n + 1) (stanza_text l b)) e ∙ drop_at (first_line l) (lines_of b) (length l + 3 + 1) (simp length-append (omega arith))

line_end_text : (l b : List ℕ) → is_line l ≡ true → line_end (stanza_text l b) ≡ length l + 3
line_end_text l b h = ap line_end (sym (append-nil (stanza_text l b))) ∙ line_end_is l b [] h

-- ---- what is written reads back

-- a text whose first k bytes are the text of these arguments and this body
pub read_text : (t l b : List ℕ) (k : ℕ) → Taken t k → take k t ≡ stanza_text l b → is_line l ≡ true → are_bytes b ≡ true → read_first t ≡ stanza (length l + 3) (length b) k
unfolding found
read_text t l b k w e h a =
    let s : take k (take 8192 t) ≡ stanza_text l b = take-take k 8192 t w.limit ∙ e in
    let n : line_end (take k (take 8192 t)) ≡ length l + 3 = ap line_end s ∙ line_end_text l b h in
    let m : line_end (take k (take 8192 t)) < length (take k (take 8192 t)) = omega (arith, ap length s, text_length l b, n) in
    let f : line_end (take 8192 t) ≡ length l + 3 = run_back is_not_lf k (take 8192 t) m ∙ n in
    let g : length (body_of (lines_in (take k (take 8192 t)))) ≡ length b = ap (λ u. length (body_of (lines_in u))) s ∙ ap (λ u. length (body_of u)) (lines_in_is l b h) ∙ ap length (body_lines b a) in
    ap (found (length t) (take 8192 t)) (scan_taken t k w) ∙ ap₂ (λ x y. stanza x y k) f g

pub read_written : (l b r : List ℕ) → are_bytes b ≡ true → is_writable l b ≡ true →
    read_first (stanza_text l b ++ r) ≡ stanza (length l + 3) (length b) (length (stanza_text l b))
read_written l b r a h =
    let w = and_true (is_line l) (leb (length (stanza_text l b)) 8192) h in
    let e = take-append_seam (stanza_text l b) r in
    read_text (stanza_text l b ++ r) l b (length (stanza_text l b))
    (record {
      within = omega (arith, length-append (stanza_text l b) r);
      limit = leb-true (length (stanza_text l b)) 8192 w.1;
      whole = record { line = l; body = b; arguments = w.0; bytes = a; text = sym e };
    }) e w.0 a

-- and its parts are the arguments and the body that were written
pub read_arguments : (l b r : List ℕ) → drop 3 (take (length l + 3) (stanza_text l b ++ r)) ≡ l
read_arguments l b r =
    let n : length l + 3 ≡ suc (suc (suc (length l))) = omega arith in
    ap (λ k. drop 3 (take k (stanza_text l b ++ r))) n ∙ ap (λ u. drop 3 (take (suc (suc (suc (length l)))) u)) (text_is l b r) ∙ take-append_seam l (10 ∷ (lines_of b ++ r))

pub read_body : (l b r : List ℕ) → are_bytes b ≡ true → body_of (drop (length l + 3 + 1) (take (length (stanza_text l b)) (stanza_text l b ++ r))) ≡ b
read_body l b r a =
    ap (λ u. body_of (drop (length l + 3 + 1) u)) (take-append_seam (stanza_text l b) r) ∙ ap body_of (drop_at (first_line l) (lines_of b) (length l + 3 + 1) (simp length-append (omega arith))) ∙ body_lines b a

pub read_back : (l b r : List ℕ) → are_bytes b ≡ true → is_writable l b ≡ true → ReadBack l b (stanza_text l b ++ r)
read_back l b r a h = record { answer = read_written l b r a h; arguments = read_arguments l b r; decoded = read_body l b r a }

-- ---- what was read would be written so again

again : (t l b : List ℕ) (e n k : ℕ) → e ≡ length l + 3 → n ≡ length b → stanza_text l b ≡ take k t → is_line l ≡ true → are_bytes b ≡ true → k ≤ 8192 → k ≤ length t → Again t e n k
again t l b e n k p q s h a f g =
    let m : length (stanza_text l b) ≡ k = ap length s ∙ length-take-le k t g in
    let u : drop 3 (take e t) ≡ l =
    ap (drop 3) (sym (take-take e k t (omega (arith, m, text_length l b)))) ∙ ap (λ x. drop 3 (take e x)) (sym s ∙ sym (append-nil (stanza_text l b)))
    ∙ ap (λ x. drop 3 (take x (stanza_text l b ++ []))) p ∙ read_arguments l b [] in
    let v : body_of (drop (e + 1) (take k t)) ≡ b =
    ap (λ x. body_of (drop (e + 1) x)) (sym s) ∙ ap body_of (drop_at (first_line l) (lines_of b) (e + 1) (simp length-append (omega arith))) ∙ body_lines b a in
    record {
      writable = ap₂ is_writable u v ∙ true_and (is_line l) (leb (length (stanza_text l b)) 8192) h (le-leb (length (stanza_text l b)) 8192 (omega (arith, m)));
      bytes = ap are_bytes v ∙ a;
      body = ap length v ∙ sym q;
      text = ap₂ stanza_text u v ∙ s;
    }

pub written_read : (t : List ℕ) (e n k : ℕ) → read_first t ≡ stanza e n k → Again t e n k
written_read t e n k r =
    let w = (taken_iff t k).0 (e, n, r) in
    let s = w.whole in
    let q : stanza e n k ≡ stanza (length s.line + 3) (length s.body) k = sym r ∙ read_text t s.line s.body k w (sym s.text) s.arguments s.bytes in
    let p : e ≡ length s.line + 3 = cc in
    let m : n ≡ length s.body = cc in
    again t s.line s.body e n k p m s.text s.arguments s.bytes w.limit w.within

-- no body has more than 6,144 bytes
pub body_limit : (t : List ℕ) (e n k : ℕ) → read_first t ≡ stanza e n k → length (body_of (drop (e + 1) (take k t))) ≤ 6144
body_limit t e n k r =
    let a = written_read t e n k r in
    let l = drop 3 (take e t) in
    let b = body_of (drop (e + 1) (take k t)) in
    let w = leb-true (length (stanza_text l b)) 8192 (and_true (is_line l) (leb (length (stanza_text l b)) 8192) a.writable).1 in
    omega (arith, text_length l b, lines_length b)
