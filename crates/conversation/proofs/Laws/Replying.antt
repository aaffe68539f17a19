-- Replying, by what writing the response came to: for the code of the client end.
use Prim.Native.Nat.{ℕ}
use mathlib.Core.Path.{◌≡◌, sym, ap₂, ◌∙◌}
use mathlib.Core.Bool.{Bool, true, false}
use mathlib.Core.List.{List}
use lib.Dec.{eqb}
use native.Mathlib.Omega.{arith}
use Rattle.refusal.specs.Output.{Answer, bytes, refused, overflows}
use Rattle.refusal.specs.Pick.{pick}
use Rattle.stanza.specs.Grammar.{stanza_text}
use Rattle.stanza.specs.Writing.{is_writable, written, buffer_after}
use Rattle.responses.specs.Responses.{fits_whole, response_line}
use Rattle.responses.specs.declared.Response.{Response}
use Rattle.session.specs.declared.words.WordTwo.{WordTwo}
use Rattle.refusal.specs.Verdict.{first_of}
use Rattle.session.specs.Session.{Session}
use Rattle.conversation.specs.TurnsTwo.{answered}
use Rattle.conversation.specs.Replying.{Replied, refused_reply, replied_to}

abbrev reply : Answer → Session → List ℕ → Replied
reply a s out = record { answer = a; session = s; output = out }

-- the number by the tests: the response fits, it can be written, the output is too short
abbrev number : Bool → Bool → Bool → ℕ
number f z v = first_of (pick f (pick z 0 17) 12) (pick v 15 0)

-- the reply by them, k bytes and the output with them at its front
abbrev reply_by : Bool → Bool → Bool → Session → List ℕ → ℕ → List ℕ → Replied
reply_by f z v s out k whole = pick (eqb (number f z v) 0) (reply (bytes k) (answered s) (pick v out whole)) (refused_reply (number f z v) s out)

module _ (s : Session) (out : List ℕ) (k : ℕ) (whole : List ℕ) where
  by_bytes : (z v : Bool) (n : ℕ) (o : List ℕ) → bytes n ≡ pick z (pick v (refused 15) (bytes k)) (refused 17) → o ≡ pick z (pick v out whole) out → reply (bytes n) (answered s) o ≡ reply_by true z v s out k whole
  by_bytes true true n o e q = let z : ◌≡◌ {A = ℕ} 0 1 = cc in absurd (omega arith)
  by_bytes true false n o e q = ap₂ (λ a o. reply a (answered s) o) e q
  by_bytes false v n o e q = let z : ◌≡◌ {A = ℕ} 0 1 = cc in absurd (omega arith)

  by_refused : (z v : Bool) (n : ℕ) (o : List ℕ) → refused n ≡ pick z (pick v (refused 15) (bytes k)) (refused 17) → o ≡ pick z (pick v out whole) out → reply (refused n) s o ≡ reply_by true z v s out k whole
  by_refused true true n o e q = ap₂ (λ a o. reply a s o) e q
  by_refused true false n o e q = let z : ◌≡◌ {A = ℕ} 0 1 = cc in absurd (omega arith)
  by_refused false v n o e q = ap₂ (λ a o. reply a s o) e q

module _ (w : WordTwo) (s : Session) (r : Response) (y out : List ℕ) where
  -- a response that does not fit
  pub replied_unfit : false ≡ fits_whole w r y → reply (refused 12) s out ≡ replied_to w s r y out
  unfolding replied_to
  replied_unfit e = rw (sym e)

  -- one that fits, and was written
  pub replied_bytes : (a : Answer) (n : ℕ) (o : List ℕ) → a ≡ bytes n → true ≡ fits_whole w r y → a ≡ written (response_line r) y out → o ≡ buffer_after (response_line r) y out → reply a (answered s) o ≡ replied_to w s r y out
  unfolding replied_to
  replied_bytes a n o h f e q = rw (sym f, h) (by_bytes s out _ _ (is_writable (response_line r) y) (overflows (stanza_text (response_line r) y) out) n o (sym h ∙ e) q)

  -- one that fits, and was not
  pub replied_refused : (a : Answer) (n : ℕ) (o : List ℕ) → a ≡ refused n → true ≡ fits_whole w r y → a ≡ written (response_line r) y out → o ≡ buffer_after (response_line r) y out → reply a s o ≡ replied_to w s r y out
  unfolding replied_to
  replied_refused a n o h f e q = rw (sym f, h) (by_refused s out _ _ (is_writable (response_line r) y) (overflows (stanza_text (response_line r) y) out) n o (sym h ∙ e) q)
