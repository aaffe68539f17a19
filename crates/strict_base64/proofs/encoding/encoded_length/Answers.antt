-- The sum is the law of the text's length, and it does not wrap.
use Rattle.strict_base64.proofs.Laws.Code.{encoded_length}
use mathlib.Core.Path.{sym}
use Rattle.strict_base64.proofs.encoding.encoded_length.Goals as goal

pub returns : goal.returns
returns c = sym (encoded_length _)
