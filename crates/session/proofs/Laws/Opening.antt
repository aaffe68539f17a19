-- Openings: a plugin's name by value, by the tests of the code; and exactly when an opening is refused.
use Prim.Native.Nat.{ℕ, ◌≤◌}
use mathlib.Core.Path.{◌≡◌, refl, sym, ap, ◌∙◌}
use mathlib.Core.Bool.{Bool, true, false, ◌&&◌, false≢true}
use mathlib.Core.Logic.{◌⊎◌, inl, inr, ⊎_elim}
use mathlib.Core.List.{List, []}
use lib.Dec.{leb, eqb}
use lib.ListN.{length}
use native.Mathlib.Omega.{arith}
use borrow.Author.Tests.{leb-true}
use Rattle.refusal.specs.Run.{all}
use Rattle.refusal.specs.Same.{same}
use Rattle.refusal.proofs.Laws.Booleans.{cases, and_true}
use Rattle.refusal.proofs.Laws.Same.{same_refl, same_eq}
use Rattle.refusal.specs.declared.Refusal.{Refusal}
use Rattle.refusal.specs.declared.Refusal.TheVariants.{NoSuchMachine, Unwritable}
use Rattle.std.specs.Option.{ok_or}
use Rattle.std.specs.Prelude.{Option, Some, None, Ok, Err}
use Rattle.bech32.specs.Calls.{IsGiven, given_name}
use Rattle.bech32.specs.Text.{is_name, is_name_byte}
use Rattle.bech32.specs.declared.human.Name.{Name}
use Rattle.session.specs.Opening.{recipient_v1, identity_v1, named, nameless, named_said, machine_named, settings_of, settings_named, settings, IsMachine, OpenedWith}
use Rattle.session.specs.Phases.{is_due}
use Rattle.session.specs.Session.{opened, opened_untold}
use Rattle.session.specs.declared.opening.Machine.{Machine}
use Rattle.session.specs.declared.opening.Machine.TheVariants.{RecipientV1, IdentityV1}
use Rattle.session.specs.declared.phases.Phase.TheVariants.{One, Closed}

name_some : (t : List ℕ) → is_name t ≡ true → 1 ≤ length t
unfolding is_name
name_some t h =
    let a = and_true (leb 1 (length t) && leb (length t) 32) (all is_name_byte t) h in
    leb-true 1 (length t) (and_true (leb 1 (length t)) (leb (length t) 32) a.0).0

-- the machine that is found
pub machine_of : (o : Option Machine) (m : Machine) → ok_or o NoSuchMachine ≡ Ok m → named_said o ≡ named m
machine_of None m q = let z : ◌≡◌ {A = ℕ} 0 1 = cc in absurd (omega arith)
machine_of (Some n) m q = cc

-- no name is given where the text is none
pub unnamed : (o : Option Name) (t : List ℕ) (e : Refusal) → IsGiven o (given_name t) → ok_or o Unwritable ≡ Err e → (is_name t ≡ false) × (e ≡ Unwritable)
unnamed None t e h q = (cases (is_name t) (λ f. let z : t ≡ [] = rw f at h in absurd (omega (arith, name_some t f, ap length z))) (λ f. f), cc)
unnamed (Some v) t e h q = let z : ◌≡◌ {A = ℕ} 0 1 = cc in absurd (omega arith)

-- ---- when an opening is refused

-- a machine is found by its name, or there is none
machine_found : (t : List ℕ) → (IsMachine t × (m : Machine) × (machine_named t ≡ named m)) ⊎ ((IsMachine t → ⊥) × (machine_named t ≡ nameless))
machine_found t =
    cases (same t recipient_v1) (λ e. inl (inl (same_eq t recipient_v1 e), RecipientV1, rw e))
    (λ e. cases (same t identity_v1) (λ f. inl (inr (same_eq t identity_v1 f), IdentityV1, rw (e, f)))
    (λ f. inr (⊎_elim (λ q. other recipient_v1 q e) (λ q. other identity_v1 q f), rw (e, f))))
  where
    other : (w : List ℕ) → t ≡ w → same t w ≡ false → ⊥
    other w q e = false≢true (sym e ∙ ap (λ x. same x w) q ∙ same_refl w)

module _ (machine name : List ℕ) (n : ℕ) where
  with_18 : (IsMachine machine → ⊥) → n ≡ 18 → OpenedWith machine name n
  with_18 h z = record {
    no_machine = (λ e. h, λ k. z);
    no_name = (λ e. absurd (omega arith), λ w. absurd (h w.0));
    accepted = (λ e. absurd (omega arith), λ w. absurd (h w.0));
  }

  with_17 : IsMachine machine → is_name name ≡ false → n ≡ 17 → OpenedWith machine name n
  with_17 m f z = record {
    no_machine = (λ e. absurd (omega arith), λ k. absurd (k m));
    no_name = (λ e. (m, f), λ w. z);
    accepted = (λ e. absurd (omega arith), λ w. absurd (false≢true (sym f ∙ w.1)));
  }

  with_0 : IsMachine machine → is_name name ≡ true → n ≡ 0 → OpenedWith machine name n
  with_0 m f z = record {
    no_machine = (λ e. absurd (omega arith), λ k. absurd (k m));
    no_name = (λ e. absurd (omega arith), λ w. absurd (false≢true (sym w.1 ∙ f)));
    accepted = (λ e. (m, f), λ w. z);
  }

pub opened_with : (machine name : List ℕ) (screen : Bool) → OpenedWith machine name (opened machine name screen).number
opened_with machine name screen =
    let n = (opened machine name screen).number in
    ⊎_elim
    (λ w. let s : settings machine name ≡ settings_named w.1 name = ap (λ x. settings_of x name) w.2 in
    cases (is_name name) (λ f. with_0 machine name n w.0 f (ap (λ x. x.number) s ∙ rw f)) (λ f. with_17 machine name n w.0 f (ap (λ x. x.number) s ∙ rw f)))
    (λ w. with_18 machine name n w.0 (ap (λ x. (settings_of x name).number) w.1))
    (machine_found machine)

-- ---- what is opened

-- an opening that is not told is one without a screen
pub untold : (machine name : List ℕ) → opened_untold machine name ≡ opened machine name false
untold machine name = refl

-- an opened session is in phase one, a refused one closed; so nothing is due
pub opened_phase : (machine name : List ℕ) (screen : Bool) → ((opened machine name screen).session.phase ≡ One) ⊎ ((opened machine name screen).session.phase ≡ Closed)
opened_phase machine name screen = cases (eqb (opened machine name screen).number 0) (λ f. inl (rw f)) (λ f. inr (rw f))

pub opened_undue : (machine name : List ℕ) (screen : Bool) → is_due (opened machine name screen).session.phase ≡ false
opened_undue machine name screen = ⊎_elim (ap is_due) (ap is_due) (opened_phase machine name screen)
