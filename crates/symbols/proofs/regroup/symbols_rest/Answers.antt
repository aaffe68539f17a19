-- The first symbols of the group are those of the bytes.
use mathlib.Core.Path.{◌≡◌, sym, ap, ap₂, ◌∙◌}
use mathlib.Core.List.{[], ◌++◌, append-nil}
use lib.ListN.{length, replicate, take, drop}
use Rattle.symbols.specs.Regroup.{symbols}
use Rattle.symbols.specs.Calls.{symbols_size}
use Rattle.symbols.proofs.Laws.Groups.{symbols_front, symbols_length}
use Rattle.symbols.proofs.regroup.symbols_rest.Goals as goal

pub returns : goal.returns
returns c = let t = c.args.payload.now in
    let w : c.symbols_group.new.out ≡ symbols (t ++ drop (length t) (replicate 5 0)) =
    c.symbols_group.ensures ∙ ap (λ l. symbols (l ++ drop (length t) (replicate 5 0)) ++ []) c.copy_from_slice.ensures.after ∙ append-nil (symbols (t ++ drop (length t) (replicate 5 0))) in
    let e : c.copy_from_slice-2.new.self ≡ symbols t = c.copy_from_slice-2.ensures.after ∙ ap (take (symbols_size (length t))) w ∙ symbols_front t c.requires.payload_len_bound in
    ap₂ (λ x n. x ++ drop n c.args.out.now) e (sym (symbols_length t))
