-- The first bytes of the group are those of the characters.
use mathlib.Core.Path.{◌≡◌, sym, ap, ap₂, ◌∙◌}
use mathlib.Core.List.{[], ◌++◌, map, append-nil}
use lib.ListN.{length, replicate, take, drop, length-map}
use Rattle.symbols.specs.Regroup.{bytes}
use Rattle.symbols.specs.Calls.{bytes_size}
use Rattle.symbols.specs.Steps.{symbol_in}
use Rattle.symbols.proofs.Laws.Groups.{bytes_front, bytes_length}
use Rattle.symbols.proofs.regroup.decode_rest.Goals as goal

pub returns : goal.returns
returns c = let t = c.args.text.now in
    let f = symbol_in c.args.table.now in
    let w : c.decode_group.new.out ≡ bytes (map f (t ++ drop (length t) (replicate 8 0))) =
    c.decode_group.ensures ∙ ap (λ l. bytes (map f (l ++ drop (length t) (replicate 8 0))) ++ []) c.copy_from_slice.ensures.after ∙ append-nil (bytes (map f (t ++ drop (length t) (replicate 8 0)))) in
    let e : c.copy_from_slice-2.new.self ≡ bytes (map f t) = c.copy_from_slice-2.ensures.after ∙ ap₂ take c.bytes_length-n.ensures w ∙ bytes_front f t c.requires.text_len_bound in
    ap₂ (λ x n. x ++ drop n c.args.out.now) e (c.bytes_length-n.ensures ∙ sym (bytes_length (map f t) ∙ ap bytes_size (length-map t f)))
