-- What composing a line in a store comes to, where the store is long enough for every line that can be written.
use Prim.Native.Nat.{ℕ, ◌≤◌, min}
use mathlib.Core.Path.{◌≡◌, ap, ◌∙◌}
use mathlib.Core.Bool.{false}
use mathlib.Core.List.{List}
use lib.ListN.{length, take}
use native.Mathlib.Omega.{arith}
use Rattle.refusal.specs.Output.{Answer, bytes, refused, answered, filled}
use Rattle.refusal.proofs.Laws.Output.{written_front, refused_over}
use Rattle.stanza.specs.Writing.{is_writable, sized}
use Rattle.stanza.proofs.Laws.Writing.{size_none, line_over}
use Rattle.session.specs.Composing.{composed, unwritten, sized_as, composed_by}

sized_line : (n m k : ℕ) (a : Answer) → composed n k ≡ sized_as m a → (n ≡ m) × (bytes k ≡ a)
sized_line n m k (bytes j) e = (cc, cc)
sized_line n m k (refused r) e = let z : ◌≡◌ {A = ℕ} 0 1 = cc in absurd (omega arith)

sized_not : (r m : ℕ) (a : Answer) → unwritten r ≡ sized_as m a → refused r ≡ a
sized_not r m (bytes j) e = let z : ◌≡◌ {A = ℕ} 0 1 = cc in absurd (omega arith)
sized_not r m (refused q) e = cc

module _ (l s store y : List ℕ) (a : Answer) (ea : a ≡ answered l s) (es : store ≡ filled l s) where
  -- the line stands at the store's front, and its stanza can be written
  pub composed_line : (n k : ℕ) → composed n k ≡ composed_by a store y → (take n store ≡ l) × (bytes k ≡ sized l y)
  composed_line n k e = go a ea e
    where
      go : (a : Answer) → a ≡ answered l s → composed n k ≡ composed_by a store y → (take n store ≡ l) × (bytes k ≡ sized l y)
      go (bytes m) q e =
          let z = sized_line n m k (sized (take m store) y) e in
          let f = (written_front l s m store q es).front in
          (ap (λ j. take j store) z.0 ∙ f, z.1 ∙ ap (λ x. sized x y) f)
      go (refused r) q e = let z : ◌≡◌ {A = ℕ} 0 1 = cc in absurd (omega arith)

  -- it cannot be written: 17
  pub composed_not : (r : ℕ) → min (length l) 8192 ≤ length s → unwritten r ≡ composed_by a store y → (is_writable l y ≡ false) × (r ≡ 17)
  composed_not r h e = go a ea e
    where
      go : (a : Answer) → a ≡ answered l s → unwritten r ≡ composed_by a store y → (is_writable l y ≡ false) × (r ≡ 17)
      go (bytes m) q e =
          let f = (written_front l s m store q es).front in
          size_none l y r (sized_not r m (sized (take m store) y) e ∙ ap (λ x. sized x y) f)
      go (refused k) q e = let o = refused_over l s k q in (line_over l y (omega (arith, o, h)), cc)
