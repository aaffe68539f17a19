-- What becomes of a reply. Nobody has to believe this: it is what `replied` comes to.
use Rattle.std.specs.Prelude.{ℕ, List, []}
use Rattle.refusal.specs.Output.{Answer, refused}
use Rattle.refusal.specs.Pick.{pick}
use Rattle.stanza.specs.Grammar.{stanza_text}
use Rattle.stanza.specs.Writing.{sized}
use Rattle.responses.specs.Responses.{fits_whole, response_line}
use Rattle.responses.specs.declared.Response.{Response}
use Rattle.session.specs.Session.{Session}
use Rattle.conversation.specs.Kinds.{Buffers}
use Rattle.conversation.specs.TurnsTwo.{Due, due, undue, answered}
use Rattle.chunks.specs.Taking.{client, Taken, taken_text}
use Rattle.chunks.specs.Chunks.{reply_ahead}

-- how many bytes the response has, or 13, 14, 12 or 17
abbrev pub due_sized : Due → Response → List ℕ → Answer
due_sized (due w) r body = pick (fits_whole w r body) (sized (response_line r) body) (refused 12)
due_sized (undue n) r body = refused n

-- the response, and behind it bytes that were kept back
abbrev pub answered_with : Session → Buffers → Response → List ℕ → List ℕ → Taken
answered_with s b r body back = reply_ahead (stanza_text (response_line r) body) (taken_text client (answered s) b [] back)
