-- What has room.
use Rattle.std.specs.Prelude.{ℕ, Bool, true, ◌&&◌, List, [], eqb, leb, length, take}
use Rattle.refusal.specs.Pick.{pick}
use Rattle.session.specs.Session.{Session}
use Rattle.conversation.specs.Calls.{receive_two, outcome}
use Rattle.conversation.specs.Kinds.{Buffers}
use Rattle.chunks.specs.Taking.{client, Turn, reads, drops, keeps_back, ample, awaited_behind, Taken, last_in, no_more, emptied, one_more, taken_text}

-- what is written has room in n bytes, and what is kept in 8,192: `is_held` by the output buffer's length
abbrev pub has_room : Taken → ℕ → Bool
has_room r n = leb (length r.written) n && leb (length r.intake.kept) 8192

-- bytes that are left, and are no whole stanza, may be so many
abbrev pub is_keepable : Turn → ℕ → Bool
is_keepable reads n = true
is_keepable (drops m) n = true
is_keepable keeps_back n = leb n 8192

-- a text that is taken as one stanza, and the text behind it
abbrev pub stanza_ahead : Session → Buffers → List ℕ → List ℕ → Taken
stanza_ahead s b t x =
    let o = outcome s b (receive_two t ample) in
    pick (eqb o.number 0)
    (one_more (last_in o.given) (take o.size o.output) (taken_text client o.session o.buffers (awaited_behind client o.session.phase t) x))
    (no_more o.number (emptied o.session []) b)
