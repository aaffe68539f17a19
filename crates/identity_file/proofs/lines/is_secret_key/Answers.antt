-- The first 16 bytes are compared.
use Rattle.std.proofs.Common.{take, ◌∙◌}
use Rattle.identity_file.specs.Kinds.{secret_key_text}
use Rattle.identity_file.proofs.Laws.Kinds.{same_swapped}
use Rattle.identity_file.proofs.lines.is_secret_key.Goals as goal

pub returns : goal.returns
returns c = c.starts_with.ensures.value ∙ same_swapped (take 16 c.args.line.now) secret_key_text
