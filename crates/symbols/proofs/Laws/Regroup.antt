-- Bits regrouped there and back.
use Prim.Native.Nat.{ℕ, suc, ◌+◌, ◌-◌, ◌*◌, ◌/◌, ◌%◌, ◌<◌}
use mathlib.Core.Path.{◌≡◌, refl, sym, ◌∙◌}
use mathlib.Core.Bool.{true, false≢true}
use mathlib.Core.List.{List, [], ◌∷◌}
use lib.ListN.{length}
use lib.Pow.{are_bytes}
use native.Mathlib.Nat.{div-div-eq-div-mul}
use native.Mathlib.Omega.{arith}
use borrow.Author.Tests.{lt-ltb, eqb-true}
use Rattle.refusal.specs.Run.{all}
use Rattle.refusal.proofs.Laws.Bytes.{byte}
use Rattle.symbols.specs.Checksum.{are_symbols}
use Rattle.symbols.specs.Regroup.{symbols, bytes, is_whole}
use Rattle.symbols.proofs.Laws.Checksum.{symbol_lt as symbol}

-- the bytes of two symbols, each equation once
first_byte : (a b : ℕ) → a < 256 → b < 256 → a / 8 * 8 + (a % 8 * 4 + b / 64) / 4 ≡ a
first_byte a b ha hb = omega arith

-- the byte whose bits lie in three symbols
middle_byte : (a b : ℕ) → b < 256 → (a % 8 * 4 + b / 64) % 4 * 64 + b / 2 % 32 * 2 + b % 2 ≡ b
middle_byte a b hb =
    let q : (a % 8 * 4 + b / 64) % 4 ≡ b / 64 = omega arith in
    let p : b / 2 / 32 ≡ b / 64 = div-div-eq-div-mul b 2 32 in
    rw (q, ← p) (omega arith)

second_byte : (a b c : ℕ) → a < 256 → b < 256 → c < 256 → (a % 8 * 4 + b / 64) % 4 * 64 + b / 2 % 32 * 2 + (b % 2 * 16 + c / 16) / 16 ≡ b
second_byte a b c ha hb hc =
    let r : (b % 2 * 16 + c / 16) / 16 ≡ b % 2 = omega arith in
    rw r (middle_byte a b hb)

third_byte : (b c d : ℕ) → b < 256 → c < 256 → d < 256 → (b % 2 * 16 + c / 16) % 16 * 16 + (c % 16 * 2 + d / 128) / 2 ≡ c
third_byte b c d hb hc hd = omega arith

fourth_byte : (c d e : ℕ) → c < 256 → d < 256 → e < 256 → (c % 16 * 2 + d / 128) % 2 * 128 + d / 4 % 32 * 4 + (d % 4 * 8 + e / 32) / 8 ≡ d
fourth_byte c d e hc hd he = omega arith

fifth_byte : (d e : ℕ) → d < 256 → e < 256 → (d % 4 * 8 + e / 32) % 8 * 32 + e % 32 ≡ e
fifth_byte d e hd he = omega arith

-- what is regrouped to symbols is regrouped back to the same bytes
pub bytes_symbols : (t : List ℕ) → are_bytes t ≡ true → bytes (symbols t) ≡ t
unfolding bytes symbols
bytes_symbols [] h = refl
bytes_symbols (a ∷ []) h =
    let ha = byte a [] h in
    let e : a / 8 * 8 + a % 8 * 4 / 4 ≡ a = omega arith in
    rw e
bytes_symbols (a ∷ b ∷ []) h =
    let ha = byte a (b ∷ []) h in
    let hb = byte b [] ha.1 in
    let r : b % 2 * 16 / 16 ≡ b % 2 = omega arith in
    let e : (a % 8 * 4 + b / 64) % 4 * 64 + b / 2 % 32 * 2 + b % 2 * 16 / 16 ≡ b = rw r (middle_byte a b hb.0) in
    rw (first_byte a b ha.0 hb.0, e)
bytes_symbols (a ∷ b ∷ c ∷ []) h =
    let ha = byte a (b ∷ c ∷ []) h in
    let hb = byte b (c ∷ []) ha.1 in
    let hc = byte c [] hb.1 in
    let e : (b % 2 * 16 + c / 16) % 16 * 16 + c % 16 * 2 / 2 ≡ c = omega arith in
    rw (first_byte a b ha.0 hb.0, second_byte a b c ha.0 hb.0 hc.0, e)
bytes_symbols (a ∷ b ∷ c ∷ d ∷ []) h =
    let ha = byte a (b ∷ c ∷ d ∷ []) h in
    let hb = byte b (c ∷ d ∷ []) ha.1 in
    let hc = byte c (d ∷ []) hb.1 in
    let hd = byte d [] hc.1 in
    let k : d % 4 * 8 / 8 ≡ d % 4 = omega arith in
    let q : (c % 16 * 2 + d / 128) % 2 ≡ d / 128 = omega arith in
    let m : d / 4 / 32 ≡ d / 128 = div-div-eq-div-mul d 4 32 in
    let e : (c % 16 * 2 + d / 128) % 2 * 128 + d / 4 % 32 * 4 + d % 4 * 8 / 8 ≡ d = rw (k, q, ← m) (omega arith) in
    rw (first_byte a b ha.0 hb.0, second_byte a b c ha.0 hb.0 hc.0, third_byte b c d hb.0 hc.0 hd.0, e)
bytes_symbols (a ∷ b ∷ c ∷ d ∷ e ∷ t) h =
    let ha = byte a (b ∷ c ∷ d ∷ e ∷ t) h in
    let hb = byte b (c ∷ d ∷ e ∷ t) ha.1 in
    let hc = byte c (d ∷ e ∷ t) hb.1 in
    let hd = byte d (e ∷ t) hc.1 in
    let he = byte e t hd.1 in
    rw (first_byte a b ha.0 hb.0, second_byte a b c ha.0 hb.0 hc.0, third_byte b c d hb.0 hc.0 hd.0, fourth_byte c d e hc.0 hd.0 he.0, fifth_byte d e hd.0 he.0, bytes_symbols t he.1)

-- the symbols of two bytes, each equation once
module _ (p q r s : ℕ) (hp : p < 32) (hq : q < 32) (hr : r < 32) (hs : s < 32) where
  first_symbol : (p * 8 + q / 4) / 8 ≡ p
  first_symbol = omega arith

  second_symbol : (p * 8 + q / 4) % 8 * 4 + (q % 4 * 64 + r * 2 + s / 16) / 64 ≡ q
  second_symbol = omega arith

  third_symbol : (q % 4 * 64 + r * 2 + s / 16) / 2 % 32 ≡ r
  third_symbol = omega arith

  fourth_symbol : (t : ℕ) → t < 32 → (q % 4 * 64 + r * 2 + s / 16) % 2 * 16 + (s % 16 * 16 + t / 2) / 16 ≡ s
  fourth_symbol t ht = omega arith

module _ (s t u v : ℕ) (hs : s < 32) (ht : t < 32) (hu : u < 32) (hv : v < 32) where
  fifth_symbol : (s % 16 * 16 + t / 2) % 16 * 2 + (t % 2 * 128 + u * 4 + v / 8) / 128 ≡ t
  fifth_symbol = omega arith

  sixth_symbol : (t % 2 * 128 + u * 4 + v / 8) / 4 % 32 ≡ u
  sixth_symbol = omega arith

  seventh_symbol : (w : ℕ) → w < 32 → (t % 2 * 128 + u * 4 + v / 8) % 4 * 8 + (v % 8 * 32 + w) / 32 ≡ v
  seventh_symbol w hw = omega arith

eighth_symbol : (v w : ℕ) → w < 32 → (v % 8 * 32 + w) % 32 ≡ w
eighth_symbol v w hw = omega arith

-- whole groups before do not matter
whole_group : (p q r s t u v w : ℕ) (l : List ℕ) → is_whole (p ∷ q ∷ r ∷ s ∷ t ∷ u ∷ v ∷ w ∷ l) ≡ is_whole l
unfolding is_whole
whole_group p q r s t u v w [] =
    let e : w % 1 ≡ 0 = omega arith in
    rw e
whole_group p q r s t u v w (x ∷ l) =
    let n = length l in
    let e : suc (suc (suc (suc (suc (suc (suc (suc (suc n)))))))) * 5 % 8 ≡ suc n * 5 % 8 = omega arith in
    let f : suc (suc (suc (suc (suc (suc (suc (suc (suc n)))))))) - 1 ≡ suc (suc (suc (suc (suc (suc (suc (suc (suc n - 1)))))))) = omega arith in
    rw (e, f)

-- whole symbols are the symbols of their bytes
pub symbols_bytes : (l : List ℕ) → are_symbols l ≡ true → is_whole l ≡ true → symbols (bytes l) ≡ l
unfolding symbols bytes is_whole
symbols_bytes [] a h = refl
symbols_bytes (p ∷ []) a h = absurd (false≢true h)
symbols_bytes (p ∷ q ∷ []) a h =
    let hp = symbol p (q ∷ []) a in
    let hq = symbol q [] hp.1 in
    let z = eqb-true (q % 4) 0 h in
    let e : (p * 8 + q / 4) / 8 ≡ p = omega arith in
    let f : (p * 8 + q / 4) % 8 * 4 ≡ q = omega arith in
    rw (e, f)
symbols_bytes (p ∷ q ∷ r ∷ []) a h = absurd (false≢true h)
symbols_bytes (p ∷ q ∷ r ∷ s ∷ []) a h =
    let hp = symbol p (q ∷ r ∷ s ∷ []) a in
    let hq = symbol q (r ∷ s ∷ []) hp.1 in
    let hr = symbol r (s ∷ []) hq.1 in
    let hs = symbol s [] hr.1 in
    let z = eqb-true (s % 16) 0 h in
    let f : (q % 4 * 64 + r * 2 + s / 16) % 2 * 16 ≡ s = omega arith in
    rw (first_symbol p q r s hp.0 hq.0 hr.0 hs.0, second_symbol p q r s hp.0 hq.0 hr.0 hs.0, third_symbol p q r s hp.0 hq.0 hr.0 hs.0, f)
symbols_bytes (p ∷ q ∷ r ∷ s ∷ t ∷ []) a h =
    let hp = symbol p (q ∷ r ∷ s ∷ t ∷ []) a in
    let hq = symbol q (r ∷ s ∷ t ∷ []) hp.1 in
    let hr = symbol r (s ∷ t ∷ []) hq.1 in
    let hs = symbol s (t ∷ []) hr.1 in
    let ht = symbol t [] hs.1 in
    let z = eqb-true (t % 2) 0 h in
    let f : (s % 16 * 16 + t / 2) % 16 * 2 ≡ t = omega arith in
    rw (first_symbol p q r s hp.0 hq.0 hr.0 hs.0, second_symbol p q r s hp.0 hq.0 hr.0 hs.0, third_symbol p q r s hp.0 hq.0 hr.0 hs.0, fourth_symbol p q r s hp.0 hq.0 hr.0 hs.0 t ht.0, f)
symbols_bytes (p ∷ q ∷ r ∷ s ∷ t ∷ u ∷ []) a h = absurd (false≢true h)
symbols_bytes (p ∷ q ∷ r ∷ s ∷ t ∷ u ∷ v ∷ []) a h =
    let hp = symbol p (q ∷ r ∷ s ∷ t ∷ u ∷ v ∷ []) a in
    let hq = symbol q (r ∷ s ∷ t ∷ u ∷ v ∷ []) hp.1 in
    let hr = symbol r (s ∷ t ∷ u ∷ v ∷ []) hq.1 in
    let hs = symbol s (t ∷ u ∷ v ∷ []) hr.1 in
    let ht = symbol t (u ∷ v ∷ []) hs.1 in
    let hu = symbol u (v ∷ []) ht.1 in
    let hv = symbol v [] hu.1 in
    let z = eqb-true (v % 8) 0 h in
    let f : (t % 2 * 128 + u * 4 + v / 8) % 4 * 8 ≡ v = omega arith in
    rw (first_symbol p q r s hp.0 hq.0 hr.0 hs.0, second_symbol p q r s hp.0 hq.0 hr.0 hs.0, third_symbol p q r s hp.0 hq.0 hr.0 hs.0, fourth_symbol p q r s hp.0 hq.0 hr.0 hs.0 t ht.0, fifth_symbol s t u v hs.0 ht.0 hu.0 hv.0, sixth_symbol s t u v hs.0 ht.0 hu.0 hv.0, f)
symbols_bytes (p ∷ q ∷ r ∷ s ∷ t ∷ u ∷ v ∷ w ∷ l) a h =
    let hp = symbol p (q ∷ r ∷ s ∷ t ∷ u ∷ v ∷ w ∷ l) a in
    let hq = symbol q (r ∷ s ∷ t ∷ u ∷ v ∷ w ∷ l) hp.1 in
    let hr = symbol r (s ∷ t ∷ u ∷ v ∷ w ∷ l) hq.1 in
    let hs = symbol s (t ∷ u ∷ v ∷ w ∷ l) hr.1 in
    let ht = symbol t (u ∷ v ∷ w ∷ l) hs.1 in
    let hu = symbol u (v ∷ w ∷ l) ht.1 in
    let hv = symbol v (w ∷ l) hu.1 in
    let hw = symbol w l hv.1 in
    rw (first_symbol p q r s hp.0 hq.0 hr.0 hs.0, second_symbol p q r s hp.0 hq.0 hr.0 hs.0, third_symbol p q r s hp.0 hq.0 hr.0 hs.0, fourth_symbol p q r s hp.0 hq.0 hr.0 hs.0 t ht.0, fifth_symbol s t u v hs.0 ht.0 hu.0 hv.0, sixth_symbol s t u v hs.0 ht.0 hu.0 hv.0, seventh_symbol s t u v hs.0 ht.0 hu.0 hv.0 w hw.0, eighth_symbol v w hw.0, symbols_bytes l hw.1 (sym (whole_group p q r s t u v w l) ∙ h))

-- symbols are below 32
pub symbols_small : (t : List ℕ) → are_bytes t ≡ true → are_symbols (symbols t) ≡ true
unfolding symbols all
symbols_small [] h = refl
symbols_small (a ∷ []) h =
    let ha = byte a [] h in
    rw (lt-ltb (a / 8) 32 (omega arith), lt-ltb (a % 8 * 4) 32 (omega arith))
symbols_small (a ∷ b ∷ []) h =
    let ha = byte a (b ∷ []) h in
    let hb = byte b [] ha.1 in
    rw (lt-ltb (a / 8) 32 (omega arith), lt-ltb (a % 8 * 4 + b / 64) 32 (omega arith), lt-ltb (b / 2 % 32) 32 (omega arith), lt-ltb (b % 2 * 16) 32 (omega arith))
symbols_small (a ∷ b ∷ c ∷ []) h =
    let ha = byte a (b ∷ c ∷ []) h in
    let hb = byte b (c ∷ []) ha.1 in
    let hc = byte c [] hb.1 in
    rw (lt-ltb (a / 8) 32 (omega arith), lt-ltb (a % 8 * 4 + b / 64) 32 (omega arith), lt-ltb (b / 2 % 32) 32 (omega arith), lt-ltb (b % 2 * 16 + c / 16) 32 (omega arith), lt-ltb (c % 16 * 2) 32 (omega arith))
symbols_small (a ∷ b ∷ c ∷ d ∷ []) h =
    let ha = byte a (b ∷ c ∷ d ∷ []) h in
    let hb = byte b (c ∷ d ∷ []) ha.1 in
    let hc = byte c (d ∷ []) hb.1 in
    let hd = byte d [] hc.1 in
    rw (lt-ltb (a / 8) 32 (omega arith), lt-ltb (a % 8 * 4 + b / 64) 32 (omega arith), lt-ltb (b / 2 % 32) 32 (omega arith), lt-ltb (b % 2 * 16 + c / 16) 32 (omega arith), lt-ltb (c % 16 * 2 + d / 128) 32 (omega arith), lt-ltb (d / 4 % 32) 32 (omega arith), lt-ltb (d % 4 * 8) 32 (omega arith))
symbols_small (a ∷ b ∷ c ∷ d ∷ e ∷ t) h =
    let ha = byte a (b ∷ c ∷ d ∷ e ∷ t) h in
    let hb = byte b (c ∷ d ∷ e ∷ t) ha.1 in
    let hc = byte c (d ∷ e ∷ t) hb.1 in
    let hd = byte d (e ∷ t) hc.1 in
    let he = byte e t hd.1 in
    rw (lt-ltb (a / 8) 32 (omega arith), lt-ltb (a % 8 * 4 + b / 64) 32 (omega arith), lt-ltb (b / 2 % 32) 32 (omega arith), lt-ltb (b % 2 * 16 + c / 16) 32 (omega arith), lt-ltb (c % 16 * 2 + d / 128) 32 (omega arith), lt-ltb (d / 4 % 32) 32 (omega arith), lt-ltb (d % 4 * 8 + e / 32) 32 (omega arith), lt-ltb (e % 32) 32 (omega arith)) (symbols_small t he.1)

-- the symbols of bytes are whole
pub symbols_whole : (t : List ℕ) → is_whole (symbols t) ≡ true
unfolding symbols is_whole
symbols_whole [] = refl
symbols_whole (a ∷ []) = let e : a % 8 * 4 % 4 ≡ 0 = omega arith in rw e
symbols_whole (a ∷ b ∷ []) = let e : b % 2 * 16 % 16 ≡ 0 = omega arith in rw e
symbols_whole (a ∷ b ∷ c ∷ []) = let e : c % 16 * 2 % 2 ≡ 0 = omega arith in rw e
symbols_whole (a ∷ b ∷ c ∷ d ∷ []) = let e : d % 4 * 8 % 8 ≡ 0 = omega arith in rw e
symbols_whole (a ∷ b ∷ c ∷ d ∷ e ∷ t) =
    whole_group (a / 8) (a % 8 * 4 + b / 64) (b / 2 % 32) (b % 2 * 16 + c / 16) (c % 16 * 2 + d / 128) (d / 4 % 32) (d % 4 * 8 + e / 32) (e % 32) (symbols t) ∙ symbols_whole t

-- the bytes of symbols are bytes
pub bytes_are : (l : List ℕ) → are_symbols l ≡ true → are_bytes (bytes l) ≡ true
unfolding bytes
bytes_are [] h = refl
bytes_are (p ∷ []) h = refl
bytes_are (p ∷ q ∷ []) h =
    let hp = symbol p (q ∷ []) h in
    let hq = symbol q [] hp.1 in
    rw (lt-ltb (p * 8 + q / 4) 256 (omega arith))
bytes_are (p ∷ q ∷ r ∷ []) h =
    let hp = symbol p (q ∷ r ∷ []) h in
    let hq = symbol q (r ∷ []) hp.1 in
    let hr = symbol r [] hq.1 in
    rw (lt-ltb (p * 8 + q / 4) 256 (omega arith))
bytes_are (p ∷ q ∷ r ∷ s ∷ []) h =
    let hp = symbol p (q ∷ r ∷ s ∷ []) h in
    let hq = symbol q (r ∷ s ∷ []) hp.1 in
    let hr = symbol r (s ∷ []) hq.1 in
    let hs = symbol s [] hr.1 in
    rw (lt-ltb (p * 8 + q / 4) 256 (omega arith), lt-ltb (q % 4 * 64 + r * 2 + s / 16) 256 (omega arith))
bytes_are (p ∷ q ∷ r ∷ s ∷ t ∷ []) h =
    let hp = symbol p (q ∷ r ∷ s ∷ t ∷ []) h in
    let hq = symbol q (r ∷ s ∷ t ∷ []) hp.1 in
    let hr = symbol r (s ∷ t ∷ []) hq.1 in
    let hs = symbol s (t ∷ []) hr.1 in
    let ht = symbol t [] hs.1 in
    rw (lt-ltb (p * 8 + q / 4) 256 (omega arith), lt-ltb (q % 4 * 64 + r * 2 + s / 16) 256 (omega arith), lt-ltb (s % 16 * 16 + t / 2) 256 (omega arith))
bytes_are (p ∷ q ∷ r ∷ s ∷ t ∷ u ∷ []) h =
    let hp = symbol p (q ∷ r ∷ s ∷ t ∷ u ∷ []) h in
    let hq = symbol q (r ∷ s ∷ t ∷ u ∷ []) hp.1 in
    let hr = symbol r (s ∷ t ∷ u ∷ []) hq.1 in
    let hs = symbol s (t ∷ u ∷ []) hr.1 in
    let ht = symbol t (u ∷ []) hs.1 in
    let hu = symbol u [] ht.1 in
    rw (lt-ltb (p * 8 + q / 4) 256 (omega arith), lt-ltb (q % 4 * 64 + r * 2 + s / 16) 256 (omega arith), lt-ltb (s % 16 * 16 + t / 2) 256 (omega arith))
bytes_are (p ∷ q ∷ r ∷ s ∷ t ∷ u ∷ v ∷ []) h =
    let hp = symbol p (q ∷ r ∷ s ∷ t ∷ u ∷ v ∷ []) h in
    let hq = symbol q (r ∷ s ∷ t ∷ u ∷ v ∷ []) hp.1 in
    let hr = symbol r (s ∷ t ∷ u ∷ v ∷ []) hq.1 in
    let hs = symbol s (t ∷ u ∷ v ∷ []) hr.1 in
    let ht = symbol t (u ∷ v ∷ []) hs.1 in
    let hu = symbol u (v ∷ []) ht.1 in
    let hv = symbol v [] hu.1 in
    rw (lt-ltb (p * 8 + q / 4) 256 (omega arith), lt-ltb (q % 4 * 64 + r * 2 + s / 16) 256 (omega arith), lt-ltb (s % 16 * 16 + t / 2) 256 (omega arith), lt-ltb (t % 2 * 128 + u * 4 + v / 8) 256 (omega arith))
bytes_are (p ∷ q ∷ r ∷ s ∷ t ∷ u ∷ v ∷ w ∷ l) h =
    let hp = symbol p (q ∷ r ∷ s ∷ t ∷ u ∷ v ∷ w ∷ l) h in
    let hq = symbol q (r ∷ s ∷ t ∷ u ∷ v ∷ w ∷ l) hp.1 in
    let hr = symbol r (s ∷ t ∷ u ∷ v ∷ w ∷ l) hq.1 in
    let hs = symbol s (t ∷ u ∷ v ∷ w ∷ l) hr.1 in
    let ht = symbol t (u ∷ v ∷ w ∷ l) hs.1 in
    let hu = symbol u (v ∷ w ∷ l) ht.1 in
    let hv = symbol v (w ∷ l) hu.1 in
    let hw = symbol w l hv.1 in
    rw (lt-ltb (p * 8 + q / 4) 256 (omega arith), lt-ltb (q % 4 * 64 + r * 2 + s / 16) 256 (omega arith), lt-ltb (s % 16 * 16 + t / 2) 256 (omega arith), lt-ltb (t % 2 * 128 + u * 4 + v / 8) 256 (omega arith), lt-ltb (v % 8 * 32 + w) 256 (omega arith)) (bytes_are l hw.1)
