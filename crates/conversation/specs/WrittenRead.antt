-- What is written reads back, and what is read would be written so again (demand 2).
use Rattle.std.specs.Prelude.{ℕ, ◌+◌, ◌≡◌, true, List, ◌++◌, length, take}
use Rattle.std.proofs.Math.Pow.{are_bytes}
use Rattle.stanza.specs.Grammar.{stanza_text}
use Rattle.stanza.specs.Reading.{stanza, read_first}
use Rattle.stanza.specs.Writing.{is_writable}
use Rattle.responses.specs.Responses.{response_line, response, response_of}
use Rattle.responses.specs.declared.Response.{Response}
use Rattle.phase_one.specs.PhaseOne as one
use Rattle.session.specs.declared.opening.Machine.{Machine}
use Rattle.conversation.specs.CommandsTwo.{command_two, payload_of}
use Rattle.conversation.specs.Phases.{line_in, body_in, command_of, command_in, payload_in}

-- a text is that of these arguments and this body, and the end that receives it, whatever stands behind it, takes all of it and finds them
pub record ReadsBack (line body text : List ℕ) : Type 0 where
  pub is_text : text ≡ stanza_text line body
  pub is_stanza : (rest : List ℕ) → read_first (text ++ rest) ≡ stanza (length line + 3) (length body) (length text)
  pub same_line : (rest : List ℕ) → line_in (text ++ rest) ≡ line
  pub same_body : (rest : List ℕ) → body_in (text ++ rest) ≡ body

-- a command of phase one, to either machine and any plugin
pub record OneReadsBack (line body text : List ℕ) : Type 0 where
  pub back : ReadsBack line body text
  pub command : (machine : Machine) (name rest : List ℕ) → command_of machine name (text ++ rest) ≡ one.command_in machine name line body
  pub payload : (machine : Machine) (name rest : List ℕ) → one.payload_in machine name (line_in (text ++ rest)) (body_in (text ++ rest)) ≡ one.payload_in machine name line body

-- a command of phase two, to either machine: its kind, its index and its payload
pub record TwoReadsBack (line body text : List ℕ) : Type 0 where
  pub back : ReadsBack line body text
  pub command : (machine : Machine) (rest : List ℕ) → command_in machine (text ++ rest) ≡ command_two machine line body
  pub payload : (machine : Machine) (rest : List ℕ) → payload_in machine (text ++ rest) ≡ payload_of (command_two machine line body) line body

-- a response: which it is, and its body
pub record ResponseReadsBack (r : Response) (body text : List ℕ) : Type 0 where
  pub back : ReadsBack (response_line r) body text
  pub same_response : (rest : List ℕ) → response_of (line_in (text ++ rest)) ≡ response r

-- the k bytes taken of a text are the text of what it is parsed as, which can be written
pub record ReceivedAgain (t : List ℕ) (k : ℕ) : Type 0 where
  pub bytes : are_bytes (body_in t) ≡ true
  pub writable : is_writable (line_in t) (body_in t) ≡ true
  pub again : take k t ≡ stanza_text (line_in t) (body_in t)
  pub as_response : (r : Response) → response_of (line_in t) ≡ response r → take k t ≡ stanza_text (response_line r) (body_in t)
