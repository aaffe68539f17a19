-- `put` meets its contract: too many bytes in use, no room, or room.
use Rattle.std.proofs.Common.{◌≡◌, ◌+◌, ◌-◌, true, false, length, drop, refl, sym, arith}
use lib.ListN.{length-drop, take-append-drop}
use borrow.Author.Tests.{lt-ltb, le-ltb}
use Rattle.refusal.specs.Output.{overflows}
use Rattle.printing.proofs.Laws.Page.{put_none, put_over, put_whole}
use Rattle.printing.proofs.page.put.Goals as goal

pub returns-then-out-at : goal.returns-then-out-at
returns-then-out-at c = put_none c.args.bytes.now c.args.out.now c.args.at c.if-out-at.true

pub returns-then-left-bytes : goal.returns-then-left-bytes
returns-then-left-bytes c =
    let o = c.args.out.now in
    let t = c.args.bytes.now in
    let n = c.args.at in
    let over : overflows t (drop n o) ≡ true = lt-ltb (length (drop n o)) (length t) (simp length-drop c.if-left-bytes.true) in
    put_over t o n o (rw over (sym (take-append-drop n o))) c.if-left-bytes.true

pub returns : goal.returns
returns c =
    let o = c.args.out.now in
    let t = c.args.bytes.now in
    let n = c.args.at in
    let d : n + length t - n ≡ length t = omega arith in
    let fits : overflows t (drop n o) ≡ false = le-ltb (length (drop n o)) (length t) (simp length-drop c.if-left-bytes.false) in
    put_whole t o n _ _ (rw (c.copy_from_slice.ensures.after, d, fits)) refl c.if-left-bytes.false
