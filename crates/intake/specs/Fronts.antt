-- A chunk's front: what it does to a stanza that is unfinished, and the answer where it does not end it.
use Rattle.std.specs.Prelude.{ℕ, ◌<◌, ◌≡◌, Bool, true, false, List, [], ◌∷◌, ◌++◌, eqb, take, drop, Option, Some, None}
use Rattle.refusal.specs.Output.{filled}
use Rattle.refusal.specs.Pick.{pick}
use Rattle.stanza.specs.Resuming.{Continued, whole, unfinished, refused, continued, place_said}
use Rattle.stanza.specs.declared.places.Place.{Place}
use Rattle.stanza.specs.declared.places.Place.TheVariants as place
use Rattle.session.specs.declared.sessions.Session.{Session as CodeSession}
use Rattle.conversation.specs.Kinds.{Buffers}
use Rattle.chunks.specs.Taking.{End, Turn, reads, drops, keeps_back}
use Rattle.chunks.specs.Chunks.{chunked}
use Rattle.intake.specs.Intake.{intake_of, stored_in, received_said}
use Rattle.intake.specs.declared.answers.Received.{Received as CodeReceived}

-- no stanza is unfinished
abbrev pub is_between : Place → ℕ → Bool
is_between place.Start n = eqb n 0
is_between place.Hyphen n = false
is_between place.Arrow n = false
is_between place.Gap n = false
is_between place.Word n = false
is_between (place.Line k last) n = false
is_between place.Ended n = false
is_between place.Dead n = false

-- what a chunk gives behind n bytes of an unfinished stanza; none of it belongs to one where none is unfinished
abbrev pub front_of : Place → ℕ → List ℕ → Continued
front_of p n x = pick (is_between p n) (whole 0) (continued (place_said p) n x)

-- bytes that come are read
abbrev pub is_reading : Turn → Bool
is_reading reads = true
is_reading (drops m) = false
is_reading keeps_back = false

-- the same by whose turn it is: where bytes are not read none belongs to a stanza
abbrev pub front_in : Turn → Place → ℕ → List ℕ → Continued
front_in t p n x = pick (is_reading t) (front_of p n x) (whole 0)

-- the input afterwards: a chunk that does not end the stanza stands behind its n bytes
abbrev pub input_behind : Continued → ℕ → List ℕ → List ℕ → List ℕ
input_behind (whole k) n x o = o
input_behind (unfinished q) n x o = take n o ++ filled x (drop n o)
input_behind (refused m) n x o = o

-- what is said of a byte b within the arguments or a body line: the stanza goes on with it
abbrev pub WithinSays : Place → ℕ → Option Place → Type 0
WithinSays p b (Some q) = (n : ℕ) → n < 8191 → front_of p n (b ∷ []) ≡ unfinished (place_said q)
WithinSays p b None = Unit {0}

-- what is said of a chunk of one byte: the stanza goes on with it and it is kept; or nothing is done
abbrev pub OneByteSays : Turn → Place → ℕ → List ℕ → List ℕ → List ℕ → Option Place → Type 0
OneByteSays t p n x before after (Some q) =
    (t ≡ reads) × (front_of p n x ≡ unfinished (place_said q)) × (after ≡ input_behind (unfinished (place_said q)) n x before)
OneByteSays t p n x before after None = after ≡ before

-- the answer to a chunk is the call's, and the input has what its session keeps
pub record Answered (e : End) (s : CodeSession) (chunk : List ℕ) (r : CodeReceived) (xs hs : List (List ℕ)) (before after : List ℕ) (b : Buffers) (out : List ℕ) : Type 0 where
  pub outcome : received_said e r xs hs after b out ≡ chunked e (intake_of e s xs hs before) b chunk out
  pub input : after ≡ stored_in (intake_of e r.session xs hs after) before
