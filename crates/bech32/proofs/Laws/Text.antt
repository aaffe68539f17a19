-- Texts of recipients and identities: what is written reads back, and what is read would be written so again. Shown once, over the kind.
use Prim.Native.Nat.{ℕ, suc, ◌+◌, ◌-◌, ◌<◌, ◌≤◌}
use mathlib.Core.Path.{◌≡◌, refl, sym, ap, ap₂, ◌∙◌, subst}
use mathlib.Core.Bool.{true, false, ◌&&◌, not, false≢true}
use mathlib.Core.Logic.{◌↔◌}
use mathlib.Core.List.{List, [], ◌∷◌, ◌++◌, map, append_assoc}
use lib.Dec.{eqb, ltb, leb}
use lib.ListN.{length, take, drop, length-append, length-drop, take-append-drop}
use lib.Pow.{are_bytes}
use lib.Seq.{take_at, drop_at, take-append_seam, drop-append_seam}
use native.Mathlib.Omega.{arith}
use borrow.Author.Tests.{ne_eqb, lt-leb, eqb-true, eq-eqb, ltb-true, lt-ltb, leb-true, le-leb, not-true}
use Rattle.refusal.specs.Pick.{pick}
use Rattle.refusal.specs.Run.{all}
use Rattle.refusal.specs.Same.{same}
use Rattle.refusal.proofs.Laws.Below.{below}
use Rattle.refusal.proofs.Laws.Booleans.{T_true, and_true, true_and, cases}
use Rattle.refusal.proofs.Laws.Run.{all_append, all_wider}
use Rattle.refusal.proofs.Laws.Same.{same_refl, same_eq}
use Rattle.symbols.specs.Charset.{value_of, character_of, is_upper, is_lower, lower, upper}
use Rattle.symbols.specs.Checksum.{are_symbols, polymod, checksum, expanded}
use Rattle.symbols.specs.Regroup.{symbols, bytes, is_whole}
use Rattle.bech32.specs.Text.{recipient, identity, is_name_byte, is_name, Form, human_part, plain_text, text_of, is_cased, in_case, no_upper, is_not_one, separator, name_in, Parsed, parsed, malformed, bad_checksum, leftover_bits, human_in, values_in, payload_in, has_tail, is_closed, is_human, is_formed, place_in, parse, Read}
use Rattle.bech32.specs.Calls.{form_of, text_number}
use Rattle.bech32.specs.declared.TextKind.{TextKind}
use Rattle.bech32.specs.declared.TextKind.TheVariants.{Recipient, Identity}
use Rattle.symbols.proofs.Laws.Charset.{character_value, value_character, lower_upper, upper_lower, lower_plain, upper_not_lower}
use Rattle.symbols.proofs.Laws.Checksum.{polymod_append, checksum_closes, checksum_unique, six_lt}
use Rattle.symbols.proofs.Laws.Regroup.{bytes_symbols, symbols_bytes, symbols_small, symbols_whole, bytes_are}

-- ---- the separator

-- the last "1" stands behind what has one before it
pub separator_is : (h d : List ℕ) → all is_not_one d ≡ true → separator (h ++ 49 ∷ d) ≡ length h
unfolding separator all
separator_is [] d a = rw a
separator_is (b ∷ h) d a = rw (has_one h d) (ap suc (separator_is h d a))
  where
    has_one : (h d : List ℕ) → all is_not_one (h ++ 49 ∷ d) ≡ false
    has_one [] d = refl
    has_one (b ∷ h) d = cases (is_not_one b) (λ e. rw e (has_one h d)) (λ e. rw e)

-- what the separator parts
pub separator_split : (l : List ℕ) → separator l < length l → l ≡ take (separator l) l ++ 49 ∷ drop (separator l + 1) l
unfolding separator
separator_split [] h = absurd (omega arith)
separator_split (b ∷ t) h =
    cases (all is_not_one t)
    (λ a. cases (eqb b 49)
    (λ e. rw (a, e, eqb-true b 49 e))
    (λ e. absurd (omega (arith, rw (a, e) at h))))
    (λ a.
    let n : suc (separator t) + 1 ≡ suc (separator t + 1) = omega arith in
    rw (a, n) (ap (λ l. b ∷ l) (separator_split t (omega (arith, rw a at h)))))

-- ---- characters and values

values_characters : (vs : List ℕ) → are_symbols vs ≡ true → map value_of (map character_of vs) ≡ vs
unfolding all
values_characters [] h = refl
values_characters (v ∷ vs) h =
    let a = and_true (ltb v 32) (are_symbols vs) h in
    ap₂ (λ x l. x ∷ l) (value_character v (ltb-true v 32 a.0)) (values_characters vs a.1)

characters_values : (d : List ℕ) → are_symbols (map value_of d) ≡ true → map character_of (map value_of d) ≡ d
unfolding all
characters_values [] h = refl
characters_values (b ∷ d) h =
    let a = and_true (ltb (value_of b) 32) (are_symbols (map value_of d)) h in
    ap₂ (λ x l. x ∷ l) (character_value b (ltb-true (value_of b) 32 a.0)) (characters_values d a.1)

-- no character is "1" or in upper case
character_plain : (v : ℕ) → v < 32 → (is_not_one (character_of v) && not (is_upper (character_of v))) ≡ true
unfolding is_upper
character_plain v h = T_true _ (below (λ v. is_not_one (character_of v) && not (is_upper (character_of v))) 32 tt v h)

characters_plain : (vs : List ℕ) → are_symbols vs ≡ true → (all is_not_one (map character_of vs) ≡ true) × (all (λ b. not (is_upper b)) (map character_of vs) ≡ true)
unfolding all
characters_plain [] h = (refl, refl)
characters_plain (v ∷ vs) h =
    let a = and_true (ltb v 32) (are_symbols vs) h in
    let p = and_true (is_not_one (character_of v)) (not (is_upper (character_of v))) (character_plain v (ltb-true v 32 a.0)) in
    let r = characters_plain vs a.1 in
    (true_and (is_not_one (character_of v)) (all is_not_one (map character_of vs)) p.0 r.0, true_and (not (is_upper (character_of v))) (all (λ b. not (is_upper b)) (map character_of vs)) p.1 r.1)

-- ---- case

lower_uppers : (t : List ℕ) → all (λ b. not (is_upper b)) t ≡ true → map lower (map upper t) ≡ t
unfolding all
lower_uppers [] h = refl
lower_uppers (b ∷ t) h =
    let a = and_true (not (is_upper b)) (all (λ b. not (is_upper b)) t) h in
    ap₂ (λ x l. x ∷ l) (lower_upper b (not-true (is_upper b) a.0)) (lower_uppers t a.1)

lower_plains : (t : List ℕ) → all (λ b. not (is_upper b)) t ≡ true → map lower t ≡ t
unfolding all
lower_plains [] h = refl
lower_plains (b ∷ t) h =
    let a = and_true (not (is_upper b)) (all (λ b. not (is_upper b)) t) h in
    ap₂ (λ x l. x ∷ l) (lower_plain b (not-true (is_upper b) a.0)) (lower_plains t a.1)

upper_lowers : (t : List ℕ) → all (λ b. not (is_lower b)) t ≡ true → map upper (map lower t) ≡ t
unfolding all
upper_lowers [] h = refl
upper_lowers (b ∷ t) h =
    let a = and_true (not (is_lower b)) (all (λ b. not (is_lower b)) t) h in
    ap₂ (λ x l. x ∷ l) (upper_lower b (not-true (is_lower b) a.0)) (upper_lowers t a.1)

uppers_cased : (t : List ℕ) → all (λ b. not (is_lower b)) (map upper t) ≡ true
unfolding all
uppers_cased [] = refl
uppers_cased (b ∷ t) = rw (upper_not_lower b) (uppers_cased t)

-- a text in lower case, put into the kind's case, is of that case; lowered it is what it was
cased : (k : Form) (l : List ℕ) → all (λ b. not (is_upper b)) l ≡ true →
    (is_cased k (pick k.capital (map upper l) l) ≡ true) × (map lower (pick k.capital (map upper l) l) ≡ l)
cased k l h = cases k.capital (λ e. rw e (uppers_cased l, lower_uppers l h)) (λ e. rw e (h, lower_plains l h))

-- and a text of the kind's case is its lower-case form, put into that case
recased : (k : Form) (t : List ℕ) → is_cased k t ≡ true → pick k.capital (map upper (map lower t)) (map lower t) ≡ t
recased k t h = cases k.capital (λ e. let a = rw e at h in rw e (upper_lowers t a)) (λ e. let a = rw e at h in rw e (lower_plains t a))

-- no byte of a name is in upper case
name_byte_plain : (b : ℕ) → is_name_byte b ≡ true → not (is_upper b) ≡ true
unfolding is_name_byte is_upper is_lower
name_byte_plain b h =
    cases (leb 65 b && leb b 90)
    (λ e.
    let a = and_true (leb 65 b) (leb b 90) e in
    let p = leb-true 65 b a.0 in
    let q = leb-true b 90 a.1 in
    let n : is_name_byte b ≡ false = rw (lt-leb 97 b (omega arith), le-leb 48 b (omega arith), lt-leb b 57 (omega arith), ne_eqb b 43 (omega arith), ne_eqb b 45 (omega arith), ne_eqb b 46 (omega arith), ne_eqb b 95 (omega arith)) in
    absurd (false≢true (sym n ∙ h)))
    (λ e. rw e)

-- ---- what is written reads back

-- a kind whose human part has no letter in upper case
pub record Plain (k : Form) : Type 0 where
  pub front : all (λ b. not (is_upper b)) k.front ≡ true
  pub back : all (λ b. not (is_upper b)) k.back ≡ true

pub name_in_lem : (k : Form) (name : List ℕ) → name_in k (human_part k name) ≡ name
name_in_lem k name =
    let n : length (human_part k name) - length k.front - length k.back ≡ length name = simp length-append (omega arith) in
    rw (n, append_assoc k.front name k.back, drop-append_seam k.front (name ++ k.back), take-append_seam name k.back)

pub human_ok : (k : Form) (name : List ℕ) → is_name name ≡ true → is_human k (human_part k name) ≡ true
unfolding is_human
human_ok k name hn =
    true_and (same (human_part k name) (human_part k (name_in k (human_part k name)))) (is_name (name_in k (human_part k name)))
    (ap (λ x. same (human_part k name) (human_part k x)) (name_in_lem k name) ∙ same_refl (human_part k name))
    (ap is_name (name_in_lem k name) ∙ hn)

-- the parts of a text in lower case
module _ (h vs : List ℕ) (a : are_symbols vs ≡ true) where
  sep_at : separator (h ++ 49 ∷ map character_of vs) ≡ length h
  sep_at = separator_is h (map character_of vs) (characters_plain vs a).0

  human_in_lem : human_in (h ++ 49 ∷ map character_of vs) ≡ h
  human_in_lem = ap (λ n. take n (h ++ 49 ∷ map character_of vs)) sep_at ∙ take-append_seam h (49 ∷ map character_of vs)

  values_in_lem : values_in (h ++ 49 ∷ map character_of vs) ≡ vs
  values_in_lem =
      let n : length (h ++ (49 ∷ [])) ≡ length h + 1 = length-append h (49 ∷ []) in
      let e : h ++ 49 ∷ map character_of vs ≡ (h ++ (49 ∷ [])) ++ map character_of vs = sym (append_assoc h (49 ∷ []) (map character_of vs)) in
      ap (λ m. map value_of (drop (m + 1) (h ++ 49 ∷ map character_of vs))) sep_at
      ∙ ap (λ l. map value_of (drop (length h + 1) l)) e ∙ ap (map value_of) (drop_at (h ++ (49 ∷ [])) (map character_of vs) (length h + 1) n) ∙ values_characters vs a

-- a name is in lower case
pub name_lowered : (name : List ℕ) → is_name name ≡ true → map lower name ≡ name
unfolding is_name
name_lowered name hn = lower_plains name (all_wider is_name_byte (λ b. not (is_upper b)) name_byte_plain name (and_true (leb 1 (length name) && leb (length name) 32) (all is_name_byte name) hn).1)

-- no letter of a human part is in upper case
human_plain : (k : Form) → Plain k → (name : List ℕ) → all is_name_byte name ≡ true → no_upper (human_part k name) ≡ true
human_plain k pl name hn =
    all_append (λ b. not (is_upper b)) (k.front ++ name) k.back
    ∙ true_and (no_upper (k.front ++ name)) (no_upper k.back)
    (all_append (λ b. not (is_upper b)) k.front name
    ∙ true_and (no_upper k.front) (no_upper name) pl.front (all_wider is_name_byte (λ b. not (is_upper b)) name_byte_plain name hn))
    pl.back

-- put into the form's case and lowered, it is what it was
pub human_lowered : (k : Form) → Plain k → (name : List ℕ) → is_name name ≡ true → map lower (in_case k (human_part k name)) ≡ human_part k name
unfolding is_name
human_lowered k pl name hn =
    let b = and_true (leb 1 (length name) && leb (length name) 32) (all is_name_byte name) hn in
    (cased k (human_part k name) (human_plain k pl name b.1)).1

-- no letter of a text in lower case is in upper case
text_plain : (k : Form) → Plain k → (name vs : List ℕ) → all is_name_byte name ≡ true → are_symbols vs ≡ true →
    all (λ b. not (is_upper b)) (human_part k name ++ 49 ∷ map character_of vs) ≡ true
unfolding all is_upper
text_plain k pl name vs hn a =
    all_append (λ b. not (is_upper b)) (human_part k name) (49 ∷ map character_of vs)
    ∙ true_and (no_upper (human_part k name)) (no_upper (49 ∷ map character_of vs)) (human_plain k pl name hn) (characters_plain vs a).1

-- a text has a tail
tail_is : (h v : List ℕ) → are_symbols v ≡ true → has_tail (plain_text h v) ≡ true
unfolding has_tail
tail_is h v s =
    let c = checksum (polymod 1 (expanded h ++ v)) in
    let a : are_symbols (v ++ c) ≡ true = all_append (λ d. ltb d 32) v c ∙ true_and (are_symbols v) (are_symbols c) s (six_lt _) in
    let l : List ℕ = plain_text h v in
    let n : length l ≡ length h + suc (length (map character_of (v ++ c))) = length-append h (49 ∷ map character_of (v ++ c)) in
    let e = values_in_lem h (v ++ c) a in
    true_and (ltb (separator l) (length l) && leb 6 (length (values_in l))) (are_symbols (values_in l))
    (true_and (ltb (separator l) (length l)) (leb 6 (length (values_in l)))
    (lt-ltb (separator l) (length l) (omega (arith, n, sep_at h (v ++ c) a)))
    (le-leb 6 (length (values_in l)) (omega (arith, ap length e, length-append v c))))
    (ap are_symbols e ∙ a)

-- and its checksum holds
closed_is : (h v : List ℕ) → are_symbols v ≡ true → is_closed (plain_text h v) ≡ true
unfolding is_closed
closed_is h v s =
    let c = checksum (polymod 1 (expanded h ++ v)) in
    let a : are_symbols (v ++ c) ≡ true = all_append (λ d. ltb d 32) v c ∙ true_and (are_symbols v) (are_symbols c) s (six_lt _) in
    let l : List ℕ = plain_text h v in
    let q : polymod 1 (expanded h ++ (v ++ c)) ≡ 1 = ap (polymod 1) (sym (append_assoc (expanded h) v c)) ∙ polymod_append (expanded h ++ v) c 1 ∙ checksum_closes (polymod 1 (expanded h ++ v)) in
    eq-eqb (polymod 1 (expanded (human_in l) ++ values_in l)) 1 (ap₂ (λ x y. polymod 1 (expanded x ++ y)) (human_in_lem h (v ++ c) a) (values_in_lem h (v ++ c) a) ∙ q)

-- the payload's symbols are those before the checksum
payload_is : (h v : List ℕ) → are_symbols v ≡ true → payload_in (plain_text h v) ≡ v
payload_is h v s =
    let c = checksum (polymod 1 (expanded h ++ v)) in
    let a : are_symbols (v ++ c) ≡ true = all_append (λ d. ltb d 32) v c ∙ true_and (are_symbols v) (are_symbols c) s (six_lt _) in
    ap (λ x. take (length x - 6) x) (values_in_lem h (v ++ c) a) ∙ take_at v c (length (v ++ c) - 6) (omega (arith, length-append v c))

human_is : (h v : List ℕ) → are_symbols v ≡ true → human_in (plain_text h v) ≡ h
human_is h v s =
    let c = checksum (polymod 1 (expanded h ++ v)) in
    human_in_lem h (v ++ c) (all_append (λ d. ltb d 32) v c ∙ true_and (are_symbols v) (are_symbols c) s (six_lt _))

-- a text passes each test
record Passed (k : Form) (t : List ℕ) : Type 0 where
  pub formed : is_formed k t ≡ true
  pub closed : is_closed (map lower t) ≡ true
  pub whole : is_whole (payload_in (map lower t)) ≡ true

text_is : (k : Form) → Plain k → (name payload : List ℕ) → is_name name ≡ true → are_bytes payload ≡ true → length (text_of k name payload) ≤ 1024 →
    Passed k (text_of k name payload) × (map lower (text_of k name payload) ≡ plain_text (human_part k name) (symbols payload))
unfolding is_formed is_name
text_is k pl name payload hn hp hl =
    let h = human_part k name in
    let v = symbols payload in
    let s = symbols_small payload hp in
    let c = checksum (polymod 1 (expanded h ++ v)) in
    let a : are_symbols (v ++ c) ≡ true = all_append (λ d. ltb d 32) v c ∙ true_and (are_symbols v) (are_symbols c) s (six_lt _) in
    let b = and_true (leb 1 (length name) && leb (length name) 32) (all is_name_byte name) hn in
    let w = cased k (plain_text h v) (text_plain k pl name (v ++ c) b.1 a) in
    let t = text_of k name payload in
    let e : human_in (map lower t) ≡ h = ap human_in w.1 ∙ human_is h v s in (
      record {
        formed =
            true_and (leb (length t) 1024 && is_cased k t && has_tail (map lower t)) (is_human k (human_in (map lower t)))
            (true_and (leb (length t) 1024 && is_cased k t) (has_tail (map lower t))
            (true_and (leb (length t) 1024) (is_cased k t) (le-leb (length t) 1024 hl) w.0)
            (ap has_tail w.1 ∙ tail_is h v s))
            (ap (is_human k) e ∙ human_ok k name hn);
        closed = ap is_closed w.1 ∙ closed_is h v s;
        whole = ap (λ x. is_whole (payload_in x)) w.1 ∙ ap is_whole (payload_is h v s) ∙ symbols_whole payload;
      },
      w.1,
    )

pub parse_text : (k : Form) → Plain k → (name payload : List ℕ) → is_name name ≡ true → are_bytes payload ≡ true → length (text_of k name payload) ≤ 1024 →
    parse k (text_of k name payload) ≡ parsed name payload
unfolding parse
parse_text k pl name payload hn hp hl =
    let w = text_is k pl name payload hn hp hl in
    let h = human_part k name in
    let v = symbols payload in
    let s = symbols_small payload hp in
    rw (w.0.formed, w.0.closed, w.0.whole) (ap₂ parsed (ap (λ x. name_in k (human_in x)) w.1 ∙ ap (name_in k) (human_is h v s) ∙ name_in_lem k name) (ap (λ x. bytes (payload_in x)) w.1 ∙ ap bytes (payload_is h v s) ∙ bytes_symbols payload hp))

-- ---- what is read would be written so again

-- a text in lower case with a tail whose checksum holds is the text of its human part and its payload's symbols
checked_text : (l : List ℕ) → has_tail l ≡ true → is_closed l ≡ true → l ≡ plain_text (human_in l) (payload_in l)
unfolding has_tail is_closed
checked_text l e f =
    let b = and_true (ltb (separator l) (length l) && leb 6 (length (values_in l))) (are_symbols (values_in l)) e in
    let c = and_true (ltb (separator l) (length l)) (leb 6 (length (values_in l))) b.0 in
    let s = ltb-true (separator l) (length l) c.0 in
    let six = leb-true 6 (length (values_in l)) c.1 in
    let h = human_in l in
    let vs = values_in l in
    let n : ℕ = length vs - 6 in
    let pay = take n vs in
    let cs = drop n vs in
    let split : pay ++ cs ≡ vs = take-append-drop n vs in
    let sym2 = and_true (are_symbols pay) (are_symbols cs) (sym (all_append (λ d. ltb d 32) pay cs) ∙ ap are_symbols split ∙ b.1) in
    let one : polymod (polymod 1 (expanded h ++ pay)) cs ≡ 1 = sym (polymod_append (expanded h ++ pay) cs 1) ∙ ap (polymod 1) (append_assoc (expanded h) pay cs ∙ ap (λ x. expanded h ++ x) split) ∙ eqb-true (polymod 1 (expanded h ++ vs)) 1 f in
    let u : cs ≡ checksum (polymod 1 (expanded h ++ pay)) = checksum_unique (polymod 1 (expanded h ++ pay)) cs sym2.1 (simp length-drop (omega arith)) one in
    separator_split l s ∙ ap (λ x. h ++ 49 ∷ x) (sym (characters_values (drop (separator l + 1) l) b.1) ∙ ap (map character_of) (sym split ∙ ap (λ x. pay ++ x) u))

-- the payload's values are symbols
pub payload_symbols : (l : List ℕ) → has_tail l ≡ true → are_symbols (payload_in l) ≡ true
unfolding has_tail
payload_symbols l e =
    let b = and_true (ltb (separator l) (length l) && leb 6 (length (values_in l))) (are_symbols (values_in l)) e in
    let n : ℕ = length (values_in l) - 6 in
    (and_true (are_symbols (take n (values_in l))) (are_symbols (drop n (values_in l))) (sym (all_append (λ d. ltb d 32) (take n (values_in l)) (drop n (values_in l))) ∙ ap are_symbols (take-append-drop n (values_in l)) ∙ b.1)).0

-- the tests that make the form
pub record HasForm (k : Form) (t : List ℕ) : Type 0 where
  pub limit : length t ≤ 1024
  pub cased : is_cased k t ≡ true
  pub tail : has_tail (map lower t) ≡ true
  pub human : human_in (map lower t) ≡ human_part k (name_in k (human_in (map lower t)))
  pub named : is_name (name_in k (human_in (map lower t))) ≡ true

pub has_form : (k : Form) (t : List ℕ) → is_formed k t ≡ true → HasForm k t
unfolding is_formed is_human
has_form k t e =
    let l = map lower t in
    let a = and_true (leb (length t) 1024 && is_cased k t && has_tail l) (is_human k (human_in l)) e in
    let c = and_true (leb (length t) 1024 && is_cased k t) (has_tail l) a.0 in
    let d = and_true (leb (length t) 1024) (is_cased k t) c.0 in
    let f = and_true (same (human_in l) (human_part k (name_in k (human_in l)))) (is_name (name_in k (human_in l))) a.1 in
    record {
      limit = leb-true (length t) 1024 d.0;
      cased = d.1;
      tail = c.1;
      human = same_eq (human_in l) (human_part k (name_in k (human_in l))) f.0;
      named = f.1;
    }

read_is : (k : Form) (t : List ℕ) → is_formed k t ≡ true → is_closed (map lower t) ≡ true → is_whole (payload_in (map lower t)) ≡ true →
    Read k t (name_in k (human_in (map lower t))) (bytes (payload_in (map lower t)))
read_is k t e f g =
    let l = map lower t in
    let p = has_form k t e in
    let v : symbols (bytes (payload_in l)) ≡ payload_in l = symbols_bytes (payload_in l) (payload_symbols l p.tail) g in
    let w : plain_text (human_part k (name_in k (human_in l))) (symbols (bytes (payload_in l))) ≡ l = ap₂ plain_text (sym p.human) v ∙ sym (checked_text l p.tail f) in
    record {
      is_named = p.named;
      are_read = bytes_are (payload_in l) (payload_symbols l p.tail);
      limit = p.limit;
      text = ap (λ x. pick k.capital (map upper x) x) w ∙ recased k t p.cased;
    }

-- the four ways in which a text is read
pub parse_cases : (P : Parsed → Type 0) (k : Form) (t : List ℕ) →
    (is_formed k t ≡ true → is_closed (map lower t) ≡ true → is_whole (payload_in (map lower t)) ≡ true →
    P (parsed (name_in k (human_in (map lower t))) (bytes (payload_in (map lower t))))) →
    (is_formed k t ≡ true → is_closed (map lower t) ≡ true → is_whole (payload_in (map lower t)) ≡ false → P (leftover_bits (name_in k (human_in (map lower t))))) →
    (is_formed k t ≡ true → is_closed (map lower t) ≡ false → P (bad_checksum (name_in k (human_in (map lower t))))) →
    (is_formed k t ≡ false → P (malformed (place_in t))) → P (parse k t)
unfolding parse
parse_cases P k t whole bits sum form =
    cases (is_formed k t)
    (λ e. cases (is_closed (map lower t))
    (λ f. cases (is_whole (payload_in (map lower t))) (λ g. rw (e, f, g) (whole e f g)) (λ g. rw (e, f, g) (bits e f g)))
    (λ f. rw (e, f) (sum e f)))
    (λ e. rw e (form e))

pub text_parse : (k : Form) (t name payload : List ℕ) → parse k t ≡ parsed name payload → Read k t name payload
text_parse k t name payload =
    parse_cases (λ p. p ≡ parsed name payload → Read k t name payload) k t
    (λ e f g q.
    let n : name_in k (human_in (map lower t)) ≡ name = cc in
    let p : bytes (payload_in (map lower t)) ≡ payload = cc in
    subst (λ x. Read k t x payload) n (subst (Read k t (name_in k (human_in (map lower t)))) p (read_is k t e f g)))
    (λ e f g q. let z : ◌≡◌ {A = ℕ} 0 1 = cc in absurd (omega arith)) (λ e f q. let z : ◌≡◌ {A = ℕ} 0 1 = cc in absurd (omega arith)) (λ e q. let z : ◌≡◌ {A = ℕ} 0 1 = cc in absurd (omega arith))

-- exactly the texts that a name and a payload write are read as that name and payload
pub parse_iff : (k : Form) → Plain k → (t name payload : List ℕ) → (parse k t ≡ parsed name payload) ↔ Read k t name payload
parse_iff k pl t name payload = (
  text_parse k t name payload,
  λ r. ap (parse k) (sym r.text) ∙ parse_text k pl name payload r.is_named r.are_read (rw r.text r.limit),
)

-- and every other text is refused
pub number_iff : (k : Form) → Plain k → (t : List ℕ) → (text_number (parse k t) ≡ 0) ↔ ((name : List ℕ) × (payload : List ℕ) × Read k t name payload)
number_iff k pl t = (
  parse_cases (λ p. text_number p ≡ 0 → (name : List ℕ) × (payload : List ℕ) × Read k t name payload) k t
      (λ e f g q. (name_in k (human_in (map lower t)), bytes (payload_in (map lower t)), read_is k t e f g))
      (λ e f g q. absurd (omega arith)) (λ e f q. absurd (omega arith)) (λ e q. absurd (omega arith)),
  λ r. ap text_number ((parse_iff k pl t r.0 r.1).1 r.2),
)

-- for recipients, and for identities
pub recipient_plain : Plain recipient
unfolding all is_upper
recipient_plain = record { front = refl; back = refl }

pub identity_plain : Plain identity
unfolding all is_upper
identity_plain = record { front = refl; back = refl }

pub form_plain : (k : TextKind) → Plain (form_of k)
form_plain Recipient = recipient_plain
form_plain Identity = identity_plain
