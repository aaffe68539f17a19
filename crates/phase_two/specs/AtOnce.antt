-- What the code's answer at once stands for.
use Rattle.responses.specs.declared.Response.{Response}
use Rattle.std.specs.Prelude.{Option, Some, None}
use Rattle.conversation.specs.ReceivingTwo as two

-- a response, or none
abbrev pub at_once_said : Option Response → two.AtOnce
at_once_said (Some r) = two.writes r
at_once_said None = two.silent
