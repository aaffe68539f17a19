-- `read_index` meets its contract: `read_index` by the length of the text and its first byte.
use mathlib.Core.Path.{sym, ◌∙◌}
use lib.ListN.{length, get_or}
use native.Mathlib.Omega.{arith}
use borrow.Author.Tests.{eq-eqb, ne_eqb}
use Rattle.stanza.proofs.Laws.Index.{read_index_by}
use Rattle.stanza.proofs.indices.read_index.Goals as goal

pub returns-then-text-eq0 : goal.returns-then-text-eq0
returns-then-text-eq0 c = let t = c.args.text.now in
    sym (read_index_by _ ∙ rw (eq-eqb (length t) 0 (omega arith)))

pub returns-then-text-eq1 : goal.returns-then-text-eq1
returns-then-text-eq1 c = let t = c.args.text.now in
    c.read_digits.ensures ∙ sym (read_index_by _ ∙ rw (ne_eqb (length t) 0 (λ q. omega arith), eq-eqb (length t) 1 (omega arith)))

pub returns-then-text-eq48 : goal.returns-then-text-eq48
returns-then-text-eq48 c = let t = c.args.text.now in
    sym (read_index_by _ ∙ rw (ne_eqb (length t) 0 (λ q. omega arith), ne_eqb (length t) 1 (λ q. omega arith), eq-eqb (get_or t 0 0) 48 (omega arith)))

pub returns : goal.returns
returns c = let t = c.args.text.now in
    c.read_digits-2.ensures ∙ sym (read_index_by _ ∙ rw (ne_eqb (length t) 0 (λ q. omega arith), ne_eqb (length t) 1 (λ q. omega arith), ne_eqb (get_or t 0 0) 48 (λ q. omega arith)))
