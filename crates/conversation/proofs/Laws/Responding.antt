-- A response received, by what its parts came to: for the code of the plugin end.
use Prim.Native.Nat.{ℕ}
use mathlib.Core.Path.{◌≡◌, refl, sym, ap, ◌∙◌}
use mathlib.Core.Bool.{Bool, true, false}
use mathlib.Core.List.{List}
use lib.Dec.{eqb}
use lib.ListN.{length}
use native.Mathlib.Omega.{arith}
use Rattle.refusal.specs.Output.{bytes, refused, overflows, answered, filled}
use Rattle.refusal.specs.Pick.{pick}
use Rattle.responses.specs.Responses.{fits_whole, response, nothing}
use Rattle.responses.specs.declared.Response.{Response}
use Rattle.session.specs.declared.words.WordTwo.{WordTwo}
use Rattle.session.specs.Tables.{Tables}
use Rattle.refusal.specs.Verdict.{first_of}
use Rattle.session.specs.Phases.{closes}
use Rattle.session.specs.declared.opening.Machine.{Machine}
use Rattle.session.specs.declared.phases.Phase.{Phase}
use Rattle.session.specs.declared.phases.Phase.TheVariants.{Two, Closed}
use Rattle.session.specs.Session.{Session}
use Rattle.conversation.specs.TurnsTwo.{answered as replied}
use Rattle.conversation.specs.Responding.{Answering, took_response, declined_response, Responded, refused_response, responded_as}
use Rattle.refusal.proofs.Laws.Output.{whole}

abbrev session_in : Machine → List ℕ → Bool → Phase → Tables → Session
session_in m g x p t = record { machine = m; name = g; screen = x; phase = p; tables = t }

abbrev responding : Answering → Session → List ℕ → Responded
responding a s out = record { answer = a; session = s; output = out }

short : (f : Bool) (n m : ℕ) → refused n ≡ pick f (refused 15) (bytes m) → (f ≡ true) × (n ≡ 15)
short true n m e = (refl, cc)
short false n m e = let z : ◌≡◌ {A = ℕ} 0 1 = cc in absurd (omega arith)

module _ (m : Machine) (g : List ℕ) (x : Bool) (q : Phase) (t : Tables) (w : WordTwo) where
  -- a refusal
  pub response_refused : (n : ℕ) (out : List ℕ) → responding (declined_response n) (session_in m g x (pick (closes n) Closed q) t) out ≡ refused_response n (session_in m g x q t) out
  response_refused n out = go (closes n)
    where
      go : (f : Bool) → responding (declined_response n) (session_in m g x (pick f Closed q) t) out ≡ responding (declined_response n) (pick f (session_in m g x Closed t) (session_in m g x q t)) out
      go true = refl
      go false = refl

  -- no response at all
  pub responded_nothing : (body : List ℕ) (k : ℕ) (out : List ℕ) → responding (declined_response 12) (session_in m g x Closed t) out ≡ responded_as w (session_in m g x q t) nothing body k out
  unfolding responded_as
  responded_nothing body k out = refl

  module _ (r : Response) (body : List ℕ) (k : ℕ) (out : List ℕ) where
    -- by whether it fits, and whether its body is longer than the output buffer
    abbrev by : Bool → Bool → Responded
    by f h =
        let n = first_of (pick f 0 12) (pick h 15 0) in
        pick (eqb n 0) (responding (took_response r k (length body)) (replied (session_in m g x q t)) (filled body out)) (refused_response n (session_in m g x q t) out)

    by_is : by (fits_whole w r body) (overflows body out) ≡ responded_as w (session_in m g x q t) (response r) body k out
    unfolding responded_as
    by_is = refl

    pub responded_unfit : fits_whole w r body ≡ false → responding (declined_response 12) (session_in m g x Closed t) out ≡ responded_as w (session_in m g x q t) (response r) body k out
    responded_unfit e = sym (ap (λ f. by f (overflows body out)) e) ∙ by_is

    -- the body written to the output buffer
    pub responded_whole : (n : ℕ) (o' : List ℕ) → fits_whole w r body ≡ true → bytes n ≡ answered body out → o' ≡ filled body out →
        responding (took_response r k n) (session_in m g x Two t) o' ≡ responded_as w (session_in m g x q t) (response r) body k out
    responded_whole n o' e a o = let z = whole (overflows body out) n (length body) a in rw (z.1, o) (sym (ap (λ f. by f false) e) ∙ sym (ap (by (fits_whole w r body)) z.0) ∙ by_is)

    -- the body longer than the output buffer
    pub responded_short : (n : ℕ) (o' : List ℕ) → fits_whole w r body ≡ true → refused n ≡ answered body out → o' ≡ filled body out →
        responding (declined_response n) (session_in m g x q t) o' ≡ responded_as w (session_in m g x q t) (response r) body k out
    responded_short n o' e a o =
        let z = short (overflows body out) n (length body) a in
        rw (z.1, o, z.0) (sym (ap (λ f. by f true) e) ∙ sym (ap (by (fits_whole w r body)) z.0) ∙ by_is)
