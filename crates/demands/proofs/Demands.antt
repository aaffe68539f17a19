-- The user's three demands (document 00), with input in chunks (document 02, No. 1), stated over the definitions that the public contracts cite. `outcome` is what a
-- call of one stanza does to a session and its buffers, a sending among them; `chunked`, `replied` and `finished`, what a chunk, a reply and the input's end do.
use Prim.Native.Nat.{ℕ, ◌<◌, ◌≤◌}
use mathlib.Core.Path.{◌≡◌, ap, ◌∙◌}
use mathlib.Core.Bool.{Bool, true, false}
use mathlib.Core.Logic.{◌⊎◌, ◌↔◌}
use mathlib.Core.List.{List, [], ◌∷◌, ◌++◌, map}
use lib.Dec.{ltb}
use lib.ListN.{length, take, drop}
use lib.Pow.{are_bytes}
use Rattle.refusal.specs.Output as output
use Rattle.refusal.specs.Output.{answered, filled, WritingJudged}
use Rattle.refusal.specs.Pick.{pick}
use Rattle.strict_base64.specs.Code.{encoded, decoded, is_base64}
use Rattle.strict_base64.specs.Lines.{lines_of, body_of}
use Rattle.stanza.specs.Exact.{Begins, FirstFault, Taken}
use Rattle.stanza.specs.Grammar.{stanza_text}
use Rattle.stanza.specs.Index as index
use Rattle.stanza.specs.Index.{read_index, is_index, value_from, decimal}
use Rattle.stanza.specs.Reading as reading
use Rattle.stanza.specs.Reading.{read_first, stanza}
use Rattle.stanza.specs.RoundTrip.{ReadBack, Again}
use Rattle.stanza.specs.Writing as writing
use Rattle.stanza.specs.Writing.{is_writable}
use Rattle.symbols.specs.Checksum.{are_symbols, polymod, checksum}
use Rattle.bech32.specs.Calls as bech32_calls
use Rattle.bech32.specs.Calls.{form_of, text_number, read_answer, read_buffer, payload_of, write_answer, write_buffer}
use Rattle.bech32.specs.Faults as faults
use Rattle.bech32.specs.Faults.{Marked}
use Rattle.bech32.specs.Text.{is_name, text_of, parsed, parse, Read}
use Rattle.bech32.specs.declared.TextKind.{TextKind}
use Rattle.bech32.specs.declared.TextKind.TheVariants.{Recipient, Identity}
use Rattle.responses.specs.Responses.{response, response_of, response_line}
use Rattle.responses.specs.declared.Response.{Response}
use Rattle.responses.specs.declared.Response.TheVariants.{Fail}
use Rattle.session.specs.declared.words.WordTwo.{WordTwo}
use Rattle.session.specs.declared.words.WordTwo.TheVariants.{Other}
use Rattle.tables.specs.Tables.{Row, view, found, shown, Looked}
use Rattle.phase_one.specs.Commands as one
use Rattle.phase_one.specs.Commands.{WordOne}
use Rattle.phase_one.specs.PhaseOne.{BuffersOne}
use Rattle.phase_one.specs.Views as one_kind
use Rattle.phase_one.specs.Views.{KindOne, recipients, identities, headers}
use Rattle.phase_one.specs.Turns.{turn_one}
use Rattle.session.specs.declared.opening.Machine.{Machine}
use Rattle.session.specs.declared.phases.Phase.{Phase as SessionPhase}
use Rattle.session.specs.declared.phases.Phase.TheVariants.{One, Two, Awaiting, Ended, Closed}
use Rattle.conversation.specs.Agreement.{Alike, Agreed, SameViews}
use Rattle.conversation.specs.Allowed.{Allowed, rows_in, Distinct, AllowedTwo, Exchange, is_done_sent, sending_calls, AllowedSent, left_of, capacity_of}
use Rattle.conversation.specs.Answers.{events, Paired}
use Rattle.conversation.specs.Calls.{Call, receive, send, receive_two, reply, send_two, is_client, outcome, written_by, State, state_of, after, in_two, brought_by, rows_brought, accepted_rows, AllZero, Accepted, Refused}
use Rattle.conversation.specs.CommandsTwo.{Named, ask, line_sent, command_two, word_two, text_of_word}
use Rattle.conversation.specs.Given.{GivenBack}
use Rattle.conversation.specs.Marks.{MarkedRows}
use Rattle.conversation.specs.Kinds.{AnyKind, first, Buffers, table_of, view_of, of_file}
use Rattle.conversation.specs.Names.{Names, NamedOnce}
use Rattle.conversation.specs.Numbers.{header, reports, SaysTwo, MissingIn, TwiceIn, Judged, Condition, order_of, FirstOf, buffer_for}
use Rattle.conversation.specs.PhaseTwo.{stanzas_for, has_key, mark_of, index_of, is_held_back}
use Rattle.conversation.specs.Phases.{All, Part, one_part, two_part, Phase, blocks_of, IsPhase, Supply, calls_of, LongEnough, Starts, JustDone, JustReceived, SameStart, Rearranged, SameTables, SameOutcome, command_in, texts_of, CallWith, after_each, Whole}
use Rattle.conversation.specs.ReceivingTwo.{writes, at_once}
use Rattle.conversation.specs.Receiving.{received}
use Rattle.conversation.specs.Sending.{sent, shortness}
use Rattle.conversation.specs.SentOne.{sending_number, held_number, SendingOne, send_calls, AllowedSendings}
use Rattle.conversation.specs.Shapes.{AcceptedTo, FrontOne, ShapedOne, FrontTwo, ShapedTwo, AllowedTwoSoFar, FrontSent, ShapedSent, AllowedSentSoFar}
use Rattle.conversation.specs.Tables.{Numbered, NumberedInFile, Ignored, phase_ignored}
use Rattle.conversation.specs.TurnsTwo.{turn_two}
use Rattle.conversation.specs.SentOne as sent_one
use Rattle.session.specs.Opening.{OpenedWith}
use Rattle.session.specs.Tables.{Tables}
use Rattle.session.specs.Session.{Session, opened_session, moved, closed, opened, opened_untold}
use Rattle.look_up.specs.ErrorNames.{names_in, name_at}
use Rattle.look_up.specs.LookUp.{entry_text, error_named, message_of, stanza_of, key_of, LookedOf, Told}
use Rattle.conversation.specs.WrittenRead.{OneReadsBack, TwoReadsBack, ResponseReadsBack, ReceivedAgain}
use Rattle.conversation.specs.Replying.{number_replied}
use Rattle.conversation.specs.TurnsTwo.{undue, due_in, answered as behind_reply}
use Rattle.conversation.specs.WrittenRead.{ReadsBack}
use Rattle.chunks.specs.Taking.{End, client, plugin, ample, Intake, no_stanza, emptied, joined}
use Rattle.chunks.specs.Chunks.{RestStays, untaken, is_held, taken, turn_of, chunked, reply_ahead, taken_back, replied_by, replied, finished}
use Rattle.chunks.specs.Uncut as chunk_lists
use Rattle.chunks.specs.Uncut.{Piece, is_closed, NoneHeldUp, is_waiting, alone, parted_chunk, parted_back, uncut, text_in, stanzas_in, IsUncut, SameRun, Together, Prefix}
use Rattle.chunks.specs.Calls as chunk_calls
use Rattle.chunks.specs.Calls.{calls_for, last_from, AsCalls}
use Rattle.chunks.specs.Reached.{AnyCall, sends_one, Has, intake_after, AnyWith, intake_after_all, Bounded, is_idle}
use Rattle.chunks.specs.Orders.{uncut_calls, amples, IsCut, end_of, OneByOne, AllTaken, SameCuts}
use Rattle.chunks.specs.PhaseOne.{Lasts, NothingDue, BehindDone, IsOther}
use Rattle.chunks.specs.Screens.{answer_to, AnsweredAtOnce, NothingWaits}
use Rattle.chunks.specs.AnyCalls.{number_at, after_any, numbers_any, InTurn, calls_all, ComesTo}
use Rattle.chunks.specs.Sent.{sent_any, OfBytes, text_sent, stanzas_sent, texts_sent}
use Rattle.refusal.proofs.Laws.Output as outputs
use Rattle.strict_base64.proofs.Laws.Lines as lines
use Rattle.strict_base64.proofs.Laws.RoundTrip as base64_both
use Rattle.stanza.proofs.Laws.Exact as exact
use Rattle.stanza.proofs.Laws.Index as indices
use Rattle.stanza.proofs.Laws.RoundTrip as stanza_both
use Rattle.stanza.proofs.Laws.Writing as stanza_writing
use Rattle.symbols.proofs.Laws.Checksum as checksums
use Rattle.bech32.proofs.Laws.Calls as bech32_judged
use Rattle.bech32.proofs.Laws.Faults as bech32_faults
use Rattle.bech32.proofs.Laws.Text as bech32_both
use Rattle.session.proofs.Laws.Opening as openings
use Rattle.responses.proofs.Laws.Responses as response_texts
use Rattle.phase_one.proofs.Laws.Commands as one_word_laws
use Rattle.conversation.proofs.Laws.Agreement as agreements
use Rattle.conversation.proofs.Laws.AllowedOne as one_accepted
use Rattle.conversation.proofs.Laws.AllowedSent as sent_accepted
use Rattle.conversation.proofs.Laws.Answers as answering
use Rattle.conversation.proofs.Laws.CommandsTwo as two_words_laws
use Rattle.conversation.proofs.Laws.ConditionsTwo as conditions
use Rattle.conversation.proofs.Laws.Given as giving
use Rattle.conversation.proofs.Laws.Marks as marks
use Rattle.conversation.proofs.Laws.Names as stanza_names
use Rattle.conversation.proofs.Laws.Numbers as numbering
use Rattle.conversation.proofs.Laws.Order as ordering
use Rattle.conversation.proofs.Laws.OrderTwo as two_accepted
use Rattle.conversation.proofs.Laws.Reached.{ReachedSession, opening_reached, each_reached, just_done, just_received_done}
use Rattle.conversation.proofs.Laws.Refusals as refusals
use Rattle.conversation.proofs.Laws.ReportedTwo as reported
use Rattle.conversation.proofs.Laws.SentOne as sent_numbers
use Rattle.conversation.proofs.Laws.ShapesOne as one_shaped
use Rattle.conversation.proofs.Laws.ShapesSent as sent_shaped
use Rattle.conversation.proofs.Laws.ShapesTwo as two_shaped
use Rattle.conversation.proofs.Laws.Tables as tables
use Rattle.conversation.proofs.Laws.Twice as twice
use Rattle.conversation.proofs.Laws.WrittenRead as written_read
use Rattle.chunks.proofs.Laws.AnyAccepted as any_accepted
use Rattle.chunks.proofs.Laws.AnyCalls as any_calls
use Rattle.chunks.proofs.Laws.Calls as chunks_called
use Rattle.chunks.proofs.Laws.Cut as cutting
use Rattle.chunks.proofs.Laws.Finish as finishing
use Rattle.chunks.proofs.Laws.Itself as itself
use Rattle.chunks.proofs.Laws.Last as last_taken
use Rattle.chunks.proofs.Laws.NothingDue as quiet_phase
use Rattle.chunks.proofs.Laws.Orders as orders_of_cuts
use Rattle.chunks.proofs.Laws.Prefix as prefixes
use Rattle.chunks.proofs.Laws.Reached as reaching
use Rattle.chunks.proofs.Laws.Screens as screens
use Rattle.chunks.proofs.Laws.Sent as sending_over
use Rattle.chunks.proofs.Laws.Short as too_short
use Rattle.chunks.proofs.Laws.Together as chunks_together
use Rattle.chunks.proofs.Laws.Written as chunks_read
use Rattle.look_up.proofs.Laws.ErrorNames as error_names
use Rattle.look_up.proofs.Laws.LookUp as looking_up

-- ---- Demand 1: "Any bytes and any calls are survived .. a refused call changes no table and no lent room, and at most closes the session."

-- Any bytes and any calls: `outcome` is defined for every session, all buffers and every call, and no public function has a `requires`. A refused call leaves the
-- tables, the buffers and the output buffer, and the session as document 01's column says.
pub demand_1 : (s : Session) (b : Buffers) (c : Call) → ((outcome s b c).number ≡ 0 → ⊥) → Refused s b c
demand_1 = refusals.refusal

-- "Each number is given only then": in any session that calls have made of an opening, each lent buffers of its own, a call's number is the first in the paper's
-- order whose condition holds, 0 where none does. The conditions ask no decision
pub demand_1_number : (machine name : List ℕ) (screen : Bool) (cs : List CallWith) (b : Buffers) (c : Call) →
    let s = after_each (opened machine name screen).session cs in FirstOf (Condition s b c) (order_of c) (outcome s b c).number
demand_1_number = numbering.number_after

-- ---- Demand 1 with chunks, "Commands before a fault in one piece stand, with their responses; demand 1 is read so .. a call refused with 15 takes nothing"

-- what an end keeps behind any calls from an opening, refused ones included, each lent buffers of its own
abbrev kept : (e : End) → List ℕ → List ℕ → Bool → List (AnyWith e) → Intake
kept e machine name screen before = intake_after_all e (emptied (opened machine name screen).session []) before

-- 15: a chunk so refused leaves session, kept bytes, buffers and output as they were, and nothing counts as taken
pub demand_1_chunk_short : (e : End) (i : Intake) (b : Buffers) (bytes out : List ℕ) → (chunked e i b bytes out).number ≡ 15 → chunked e i b bytes out ≡ untaken 15 i b out
demand_1_chunk_short = too_short.chunk_short

-- .. exactly where it is the chunk's turn, and what it would write is longer than the output buffer or what it would keep longer than 8,192 bytes
pub demand_1_chunk_short_iff : (e : End) (i : Intake) (b : Buffers) (bytes out : List ℕ) →
    ((chunked e i b bytes out).number ≡ 15) ↔ ((turn_of e i.session.phase ≡ 0) × (is_held (taken e i b bytes) out ≡ false))
demand_1_chunk_short_iff = too_short.chunk_short_iff

-- .. a reply: the command waits on and the kept-back bytes stay
pub demand_1_reply_short : (i : Intake) (b : Buffers) (r : Response) (body out : List ℕ) → (replied i b r body out).number ≡ 15 → replied i b r body out ≡ untaken 15 i b out
demand_1_reply_short = too_short.reply_short

pub demand_1_reply_short_iff : (i : Intake) (b : Buffers) (r : Response) (body out : List ℕ) →
    ((replied i b r body out).number ≡ 15) ↔
    ((w : WordTwo) × (i.session.phase ≡ Awaiting w) × (number_replied w r body ≡ 0) × (is_held (reply_ahead (stanza_text (response_line r) body) (taken_back i b)) out ≡ false))
demand_1_reply_short_iff = too_short.reply_short_iff

-- any other number: tables, buffers and output are as the calls for the stanzas before the fault leave them; the session is closed, or for 13 and 14 as it was after
-- them; the rest is dropped. The number is the one that the fault has in a call of its own
pub demand_1_chunk : (e : End) (machine name : List ℕ) (screen : Bool) (before : List (AnyWith e)) (b : Buffers) (bytes out : List ℕ) → let i = kept e machine name screen before in
    let o = chunked e i b bytes out in turn_of e i.session.phase ≡ 0 → (o.number ≡ 0 → ⊥) → (o.number ≡ 15 → ⊥) →
    Prefix e i b (i.kept ++ bytes) o (map alone (take o.count (parted_chunk e i b bytes).received))
demand_1_chunk e machine name screen before b bytes out = prefixes.prefix_chunk e (kept e machine name screen before) b bytes out (reaching.reached_bounded e machine name screen before)

-- .. and where the phase alone refuses it, closed or ended 13, the client's phase one or waiting 14, nothing is taken and nothing of the chunk is kept
pub demand_1_chunk_turn : (e : End) (i : Intake) (b : Buffers) (bytes out : List ℕ) (n : ℕ) → turn_of e i.session.phase ≡ n → (n ≡ 0 → ⊥) → chunked e i b bytes out ≡ untaken n i b out
demand_1_chunk_turn = prefixes.prefix_turn

-- a reply that is taken stands, and behind it the stanzas that were kept back, as far as the fault
pub demand_1_reply : (i : Intake) (b : Buffers) (r : Response) (body out : List ℕ) (w : WordTwo) → let o = replied i b r body out in i.session.phase ≡ Awaiting w → number_replied w r body ≡ 0 →
    (o.number ≡ 0 → ⊥) → (o.number ≡ 15 → ⊥) → Prefix client i b i.kept o (chunk_lists.reply r body ample ∷ map alone (take o.count (parted_back i b).received))
demand_1_reply = prefixes.prefix_reply

-- .. 12 and 17 leave the command waiting and the kept-back bytes; 13 and 14, where none waits, leave everything
pub demand_1_reply_unfit : (i : Intake) (b : Buffers) (r : Response) (body out : List ℕ) (w : WordTwo) → i.session.phase ≡ Awaiting w → (number_replied w r body ≡ 0 → ⊥) →
    replied i b r body out ≡ untaken (number_replied w r body) i b out
demand_1_reply_unfit = prefixes.prefix_unfit

pub demand_1_reply_undue : (i : Intake) (b : Buffers) (r : Response) (body out : List ℕ) (n : ℕ) → due_in i.session.phase ≡ undue n → replied i b r body out ≡ untaken n i b out
demand_1_reply_undue i b r body out n h = ap (λ d. replied_by d i b r body out) h

-- accepted or refused, what a call writes stands at the front of the output buffer and the bytes behind it stay
pub demand_1_output : (e : End) (i : Intake) (b : Buffers) (bytes out : List ℕ) (r : Response) (body : List ℕ) → RestStays (chunked e i b bytes out) out × RestStays (replied i b r body out) out
demand_1_output e i b bytes out r body = (too_short.chunk_stays e i b bytes out, too_short.reply_stays i b r body out)

-- "A session then gives 2 only when the input is declared ended before the conversation has": no chunk and no reply gives 2, the input's end does exactly in phases
-- one and two
pub demand_1_chunk_two : (e : End) (machine name : List ℕ) (screen : Bool) (before : List (AnyWith e)) (b : Buffers) (bytes out : List ℕ) → (chunked e (kept e machine name screen before) b bytes out).number ≡ 2 → ⊥
demand_1_chunk_two = reaching.reached_not_two

pub demand_1_reply_two : (i : Intake) (b : Buffers) (r : Response) (body out : List ℕ) → (replied i b r body out).number ≡ 2 → ⊥
demand_1_reply_two = finishing.reply_not_two

pub demand_1_finish : (p : SessionPhase) → (finished p ≡ 2) ↔ ((p ≡ One) ⊎ ((p ≡ Two) ⊎ ((w : WordTwo) × (p ≡ Awaiting w))))
demand_1_finish = finishing.finished_two

-- .. it is accepted exactly in a session that has ended, and 13 in a closed one
pub demand_1_finish_ended : (p : SessionPhase) → ((finished p ≡ 0) ↔ (p ≡ Ended)) × ((finished p ≡ 13) ↔ (p ≡ Closed))
demand_1_finish_ended p = (finishing.finished_zero p, finishing.finished_closed p)

-- "keep at most 8,192 bytes of an unfinished stanza": behind any calls the kept bytes are at most 8,192; where nothing waits they are the front of a stanza that is
-- longer, and at most 8,191
pub demand_1_bounds : (e : End) (machine name : List ℕ) (screen : Bool) (before : List (AnyWith e)) → let i = kept e machine name screen before in
    Bounded e i × (is_waiting e i.session.phase ≡ false → Begins i.kept)
demand_1_bounds e machine name screen before = (reaching.reached_bounded e machine name screen before, reaching.reached_begins e machine name screen before)

-- .. and there are none in the client's phase one, at the plugin end in phase two with nothing due, in a session that has ended and in a closed one
pub demand_1_bounds_idle : (e : End) (machine name : List ℕ) (screen : Bool) (before : List (AnyWith e)) → let i = kept e machine name screen before in
    is_idle e i.session.phase ≡ true → i ≡ emptied i.session []
demand_1_bounds_idle = reaching.reached_empty

-- ---- Demand 1, "Outside a session: 18, then 1 to 3, 16 or 17, then 15 .. A refusal writes nothing". 1 to 3 and 5: below, with stanza text

-- openings: 18 exactly where the machine's name is neither of the two, else 17 exactly where the plugin's name is none in lower case
pub demand_1_opening : (machine name : List ℕ) (screen : Bool) → OpenedWith machine name (opened machine name screen).number
demand_1_opening = openings.opened_with

-- writing a stanza: 17 exactly where it can't be written, else 15 exactly where it is longer than the output, which a refusal leaves as it was
pub demand_1_stanza : (line body out : List ℕ) → WritingJudged 17 (is_writable line body ≡ false) (stanza_text line body) out (writing.written line body out) (writing.buffer_after line body out)
demand_1_stanza = stanza_writing.written_judged

-- reading a recipient or an identity: the text's own number, 16, 21 or 22, exactly where it has one, else 15
pub demand_1_bech32_read : (k : TextKind) (t out : List ℕ) →
    let p = parse (form_of k) t in WritingJudged (text_number p) (text_number p ≡ 0 → ⊥) (payload_of p) out (read_answer p out) (read_buffer p out)
demand_1_bech32_read k t out = bech32_judged.read_judged (parse (form_of k) t) out

-- writing one: 17 exactly where the name is none in lower case or the text has more than 1,024 characters, else 15
pub demand_1_bech32_written : (k : TextKind) (name payload out : List ℕ) →
    WritingJudged 17 (bech32_calls.is_writable (form_of k) name payload ≡ false) (text_of (form_of k) name payload) out (write_answer (form_of k) name payload out) (write_buffer (form_of k) name payload out)
demand_1_bech32_written k = bech32_judged.write_judged (form_of k)

-- any content written to an output, as a stanza's decoded body: 15 exactly where it is longer, and then nothing is written
pub demand_1_short : (content out : List ℕ) → ((answered content out ≡ output.refused 15) ↔ (length out < length content)) × ((n : ℕ) → answered content out ≡ output.refused n → filled content out ≡ out)
demand_1_short content out = (outputs.short_iff content out, outputs.short_kept content out)

-- ---- Demand 2, stanza text: "exactly those of the public age documents as the build paper condenses them"

-- "the first byte that no stanza, of any length, can have there gives 1": and it is among the first 8,192
pub demand_2_stanza_1 : (t : List ℕ) → (read_first t ≡ reading.refused 1) ↔ FirstFault t
demand_2_stanza_1 = exact.refused_1

-- "If the text ends sooner, 2": it is shorter than 8,192 bytes, and some longer stanza begins with it
pub demand_2_stanza_2 : (t : List ℕ) → (read_first t ≡ reading.refused 2) ↔ ((length t < 8192) × Begins t)
demand_2_stanza_2 = exact.refused_2

-- "If 8,192 bytes pass and the stanza hasn't ended, 3"
pub demand_2_stanza_3 : (t : List ℕ) → (read_first t ≡ reading.refused 3) ↔ ((8192 ≤ length t) × Begins (take 8192 t))
demand_2_stanza_3 = exact.refused_3

-- "A call takes the first stanza of its text and says how many bytes that was": k bytes are taken exactly where the first k are a stanza, of at most 8,192
pub demand_2_stanza_taken : (t : List ℕ) (k : ℕ) → ((e : ℕ) × (n : ℕ) × (read_first t ≡ stanza e n k)) ↔ Taken t k
demand_2_stanza_taken = exact.taken_iff

-- "What is written reads back": with the same arguments and body, whatever stands behind it
pub demand_2_stanza_written : (line body rest : List ℕ) → are_bytes body ≡ true → is_writable line body ≡ true → ReadBack line body (stanza_text line body ++ rest)
demand_2_stanza_written = stanza_both.read_back

-- "and what is read would be written so again": byte for byte
pub demand_2_stanza_read : (t : List ℕ) (e n k : ℕ) → read_first t ≡ stanza e n k → Again t e n k
demand_2_stanza_read = stanza_both.written_read

-- "standard base64 without padding, unused last bits zero": the texts that are base64 are exactly the encodings of bytes, and each decodes to its bytes
pub demand_2_base64 : (t : List ℕ) → (is_base64 t ≡ true) ↔ ((b : List ℕ) × (are_bytes b ≡ true) × (encoded b ≡ t))
demand_2_base64 = base64_both.base64_iff

pub demand_2_decoded : (b : List ℕ) → are_bytes b ≡ true → decoded (encoded b) ≡ b
demand_2_decoded = base64_both.decoded_encoded

-- "in lines of 64 characters .. every line ends in LF": 48 bytes of a body make a full line and LF, and the rest follows
pub demand_2_full_line : (b : List ℕ) → 48 ≤ length b → (lines_of b ≡ encoded (take 48 b) ++ 10 ∷ lines_of (drop 48 b)) × (length (encoded (take 48 b)) ≡ 64)
demand_2_full_line b h = (lines.lines_line b h, lines.full_length b h)

-- "The last line has 0 to 63 characters": fewer bytes make the last line and LF
pub demand_2_last_line : (b : List ℕ) → length b < 48 → (lines_of b ≡ encoded b ++ (10 ∷ [])) × (length (encoded b) < 64)
demand_2_last_line b h = (lines.lines_last b h, lines.last_length b h)

-- a body in lines decodes to itself
pub demand_2_body : (b : List ℕ) → are_bytes b ≡ true → body_of (lines_of b) ≡ b
demand_2_body = base64_both.body_lines

-- "An index is "0" or digits without a leading zero, at most 4,294,967,295", and has the value of its digits; any other text, as "01", is 5
pub demand_2_index : (t : List ℕ) → read_index t ≡ pick (is_index t) (index.number (value_from 0 t)) (index.refused 5)
demand_2_index = indices.index_is

-- so the only index of n is the decimal text of n
pub demand_2_index_text : (t : List ℕ) (n : ℕ) → (read_index t ≡ index.number n) ↔ ((t ≡ decimal n) × (n ≤ 4294967295))
demand_2_index_text = indices.index_iff

-- ---- Demand 2, "Bech32 recipients and identities", for both kinds alike

-- a text is read as a name and a payload exactly if it is the text that they write, of at most 1,024 characters
pub demand_2_bech32 : (k : TextKind) (t name payload : List ℕ) → (parse (form_of k) t ≡ parsed name payload) ↔ Read (form_of k) t name payload
demand_2_bech32 k = bech32_both.parse_iff (form_of k) (bech32_both.form_plain k)

-- .. and it is refused exactly if no name and no payload write it: what is accepted did not change with request 4
pub demand_2_bech32_accepted : (k : TextKind) (t : List ℕ) → (text_number (parse (form_of k) t) ≡ 0) ↔ ((name : List ℕ) × (payload : List ℕ) × Read (form_of k) t name payload)
demand_2_bech32_accepted k = bech32_both.number_iff (form_of k) (bech32_both.form_plain k)

-- .. with 16 and the place, 21 or 22, each exactly if its condition holds
pub demand_2_bech32_judged : (k : TextKind) (t : List ℕ) → faults.Judged (form_of k) t (parse (form_of k) t)
demand_2_bech32_judged k = bech32_faults.judged (form_of k) (bech32_both.form_plain k)

-- an entry's mark for the session's name: 16 where the text has not the form with this name, else 21, 22 or 0
pub demand_2_bech32_marked : (k : TextKind) (t plugin : List ℕ) → Marked (form_of k) t plugin (bech32_calls.mark_of (parse (form_of k) t) plugin)
demand_2_bech32_marked k = bech32_faults.marked (form_of k) (bech32_both.form_plain k)

-- .. in the tables of any commands, at both ends
pub demand_2_marks : (machine : Machine) (name : List ℕ) (ts : List (List ℕ)) → MarkedRows name (rows_in machine name recipients ts) (rows_in machine name identities ts)
demand_2_marks = marks.marked_rows

-- "What is written reads back"
pub demand_2_bech32_written : (k : TextKind) (name payload : List ℕ) → is_name name ≡ true → are_bytes payload ≡ true → length (text_of (form_of k) name payload) ≤ 1024 →
    parse (form_of k) (text_of (form_of k) name payload) ≡ parsed name payload
demand_2_bech32_written k = bech32_both.parse_text (form_of k) (bech32_both.form_plain k)

-- "the final value is 1": of six symbols behind any state, the checksum alone gives it
pub demand_2_checksum : (state : ℕ) (ds : List ℕ) → are_symbols ds ≡ true → length ds ≡ 6 → (polymod state ds ≡ 1) ↔ (ds ≡ checksum state)
demand_2_checksum state ds a l = (checksums.checksum_unique state ds a l, λ e. ap (polymod state) e ∙ checksums.checksum_closes state)

-- ---- Demand 2, "tables". What is said of a session that an opening and calls have made, each lent buffers of its own, rests on this

made : (machine name : List ℕ) (screen : Bool) (cs : List CallWith) → ReachedSession (after_each (opened machine name screen).session cs)
made machine name screen cs = each_reached (opened machine name screen).session cs (opening_reached machine name screen)

-- of any list of calls from an opening, refused ones included, each kind's table is exactly the list's accepted commands of that kind, in order
pub demand_2_tables : (k : AnyKind) (machine name : List ℕ) (screen : Bool) (b : Buffers) (cs : List Call) →
    let s = (opened machine name screen).session in view_of k (after s b cs).session.tables (after s b cs).buffers ≡ accepted_rows k s b cs
demand_2_tables = tables.tables_opened

-- a kind's count is the number of its accepted commands
pub demand_2_count : (k : AnyKind) (machine name : List ℕ) (screen : Bool) (b : Buffers) (cs : List Call) →
    let s = (opened machine name screen).session in (table_of k (after s b cs).session.tables).count ≡ length (accepted_rows k s b cs)
demand_2_count = tables.count_opened

-- "Each kind has its own numbering from 0": an accepted command's number is its kind's count before, and its row stands there, behind the others
pub demand_2_numbered : (machine name : List ℕ) (screen : Bool) (cs : List CallWith) (b : Buffers) (c : Call) (k : AnyKind) (row : Row) →
    let s = after_each (opened machine name screen).session cs in (outcome s b c).number ≡ 0 → rows_brought s (brought_by c) k ≡ row ∷ [] → Numbered s b c k row
demand_2_numbered machine name screen cs b c k row = tables.numbered (after_each (opened machine name screen).session cs) b c k row (made machine name screen cs)

-- "Returned stanzas are numbered from 0 within their file and keys go by file": likewise, among the rows of its file
pub demand_2_numbered_in_file : (machine name : List ℕ) (screen : Bool) (cs : List CallWith) (b : Buffers) (c : Call) (k : AnyKind) (f : ℕ) (row : Row) →
    let s = after_each (opened machine name screen).session cs in (outcome s b c).number ≡ 0 → rows_brought s (brought_by c) k ≡ row ∷ [] → row.index ≡ f → NumberedInFile s b c k f row
demand_2_numbered_in_file machine name screen cs b c k f row = tables.numbered_in_file (after_each (opened machine name screen).session cs) b c k f row (made machine name screen cs)

-- .. and the rows of every other file stay
pub demand_2_other_file : (machine name : List ℕ) (screen : Bool) (cs : List CallWith) (b : Buffers) (c : Call) (k : AnyKind) (f : ℕ) (row : Row) →
    let s = after_each (opened machine name screen).session cs in (outcome s b c).number ≡ 0 → rows_brought s (brought_by c) k ≡ row ∷ [] → (row.index ≡ f → ⊥) →
    of_file f (view_of k (outcome s b c).session.tables (outcome s b c).buffers) ≡ of_file f (view_of k s.tables b)
demand_2_other_file machine name screen cs b c k f row = tables.other_file (after_each (opened machine name screen).session cs) b c k f row (made machine name screen cs)

-- an accepted call whose command makes no entry of a kind leaves that kind's table and its buffer
pub demand_2_elsewhere : (s : Session) (b : Buffers) (c : Call) (k : AnyKind) → (outcome s b c).number ≡ 0 → rows_brought s (brought_by c) k ≡ [] →
    (table_of k (outcome s b c).session.tables ≡ table_of k s.tables) × (buffer_for k (outcome s b c).buffers ≡ buffer_for k b)
demand_2_elsewhere = tables.elsewhere

-- "Any other command is ignored": it changes no table and no buffer, and at most makes the plugin's end await its response
pub demand_2_ignored : (s : Session) (b : Buffers) (c : Call) → (outcome s b c).number ≡ 0 → Ignored s (brought_by c) →
    ((outcome s b c).session ≡ moved s (phase_ignored s c) s.tables) × ((outcome s b c).buffers ≡ b)
demand_2_ignored = tables.ignored

-- "Both ends open with a machine's and a plugin's name and keep these tables alike": they open alike, whatever the screen
pub demand_2_alike : (machine name : List ℕ) (screen screen' : Bool) → Alike (opened machine name screen).session (opened machine name screen').session
demand_2_alike = agreements.opened_alike

-- .. and stay so in phase one: what the client sends, the plugin takes as the same command, at the front of any text that begins with it, where its buffers are long
-- enough; the sessions are alike again and their tables show the same
pub demand_2_agreement : (machine name : List ℕ) (screen : Bool) (cs : List CallWith) (s' : Session) (b b' : BuffersOne) (word : WordOne) (arguments body out text : List ℕ) (n : ℕ) →
    let s = after_each (opened machine name screen).session cs in Alike s s' → SameViews s b s' b' → are_bytes body ≡ true →
    (sent s word arguments body b out).answer ≡ output.bytes n → take n text ≡ take n (sent s word arguments body b out).output →
    ((k : KindOne) → (one_kind.table_of k (sent s word arguments body b out).session.tables).used ≤ length (one_kind.buffer_of k b')) →
    Agreed s (one.line_sent word arguments) body n (sent s word arguments body b out) (received s' text b')
    × SameViews (sent s word arguments body b out).session (sent s word arguments body b out).buffers (received s' text b').session (received s' text b').buffers
demand_2_agreement machine name screen cs s' b b' word arguments body out text n a v y q e l =
    let s = after_each (opened machine name screen).session cs in
    let j = (made machine name screen cs).tables in
    (agreements.agreement s s' b b' word arguments body out text n a j v y q e l, agreements.views_agree s s' b b' word arguments body out text n a j v y q e l)

-- ---- Demand 2, look-ups, of a session that an opening and calls have made: "is shown that entry's text as a part of the recipient room or the identity room. If there
-- is none, or the room lent is too short for it, the part is empty; no entry is empty"

pub demand_2_recipient : (machine name : List ℕ) (screen : Bool) (cs : List CallWith) (n : ℕ) (recipients identities : List ℕ) →
    let t = (after_each (opened machine name screen).session cs).tables in Looked (entry_text t Recipient n recipients identities) t.recipients recipients n
demand_2_recipient machine name screen cs = looking_up.recipient_looked (after_each (opened machine name screen).session cs).tables (made machine name screen cs).tables

pub demand_2_identity : (machine name : List ℕ) (screen : Bool) (cs : List CallWith) (n : ℕ) (recipients identities : List ℕ) →
    let t = (after_each (opened machine name screen).session cs).tables in Looked (entry_text t Identity n recipients identities) t.identities identities n
demand_2_identity machine name screen cs = looking_up.identity_looked (after_each (opened machine name screen).session cs).tables (made machine name screen cs).tables

-- .. and any entry of a kind of phase one, file keys and header stanzas too, found by its number
pub demand_2_found : (machine name : List ℕ) (screen : Bool) (cs : List CallWith) (k : KindOne) (b : List ℕ) (n : ℕ) →
    let t = one_kind.table_of k (after_each (opened machine name screen).session cs).tables in Looked (shown (found t n) b) t b n
demand_2_found machine name screen cs = looking_up.entry_looked (after_each (opened machine name screen).session cs).tables (made machine name screen cs).tables

-- stanza k of a file, the key of a file, and the message of error k, which may be empty
pub demand_2_stanza_of : (machine name : List ℕ) (screen : Bool) (cs : List CallWith) (b : List ℕ) (f k : ℕ) →
    let t = (after_each (opened machine name screen).session cs).tables in LookedOf (stanza_of t f k b) t.stanzas b f k
demand_2_stanza_of machine name screen cs = looking_up.stanza_looked (after_each (opened machine name screen).session cs).tables (made machine name screen cs).later_tables

pub demand_2_key_of : (machine name : List ℕ) (screen : Bool) (cs : List CallWith) (b : List ℕ) (f : ℕ) →
    let t = (after_each (opened machine name screen).session cs).tables in LookedOf (key_of t f b) t.returned b f 0
demand_2_key_of machine name screen cs = looking_up.key_looked (after_each (opened machine name screen).session cs).tables (made machine name screen cs).later_tables

pub demand_2_message : (machine name : List ℕ) (screen : Bool) (cs : List CallWith) (b : List ℕ) (k : ℕ) →
    let t = (after_each (opened machine name screen).session cs).tables in Told (message_of t k b) t.errors b k
demand_2_message machine name screen cs = looking_up.message_told (after_each (opened machine name screen).session cs).tables (made machine name screen cs).later_tables

-- how many stanzas a file has, and whether it has a key: by its rows
pub demand_2_file_counts : (t : Tables) (b : List ℕ) (f : ℕ) →
    (stanzas_for t f ≡ length (of_file f (view t.stanzas b))) × (has_key t f ≡ ltb 0 (length (of_file f (view t.returned b))))
demand_2_file_counts t b f = (looking_up.count_of t.stanzas b f, ap (ltb 0) (looking_up.count_of t.returned b f))

-- ".. and what an error names": the look-up of error k gives what the k-th accepted error of the list names, of a header stanza its file and its number; nothing beyond
pub demand_2_errors : (machine name : List ℕ) (screen : Bool) (b : Buffers) (cs : List Call) (k : ℕ) →
    let s = (opened machine name screen).session in error_named (after s b cs).session.tables k ≡ name_at (names_in s b cs) k
demand_2_errors = error_names.names_opened

-- ---- Demand 2, "phases and responses". "The transcripts allowed are the ones accepted": phase one, received by a session just opened
pub demand_2_phase_one : (machine : Machine) (name : List ℕ) (screen : Bool) (b : Buffers) (outs : Supply) (p : Phase) → IsPhase one_part p →
    Accepted (opened_session machine name screen) b (calls_of one_part outs (blocks_of p)) ↔ Allowed machine name b.first (texts_of p)
demand_2_phase_one = one_accepted.accepted_iff

-- .. of any texts at all: accepted to the end of the phase exactly those that have its shape and are allowed
pub demand_2_phase_one_exact : (machine : Machine) (name : List ℕ) (screen : Bool) (b : Buffers) (ts : List (List ℕ)) →
    AcceptedTo Two (opened_session machine name screen) b (map receive ts) ↔ (ShapedOne ts × Allowed machine name b.first ts)
demand_2_phase_one_exact = one_shaped.shaped_one_iff

-- .. and accepted but not to its end, exactly those cut before done that are allowed so far; it is then still phase one
pub demand_2_phase_one_so_far : (machine : Machine) (name : List ℕ) (screen : Bool) (b : Buffers) (ts : List (List ℕ)) (q : SessionPhase) → (q ≡ Two → ⊥) →
    AcceptedTo q (opened_session machine name screen) b (map receive ts) ↔ ((q ≡ One) × FrontOne ts × Allowed machine name b.first ts)
demand_2_phase_one_so_far = one_shaped.front_one_iff

-- phase one at the client end, sent by a session just opened; only the last may be done
pub demand_2_phase_one_sent : (machine : Machine) (name : List ℕ) (screen : Bool) (b : Buffers) (outs : Supply) (xs : List SendingOne) (y : SendingOne) →
    All (λ x. are_bytes x.body ≡ true) (xs ++ (y ∷ [])) → All (λ x. sent_one.is_done_sent x ≡ false) xs → LongEnough (opened_session machine name screen) b (send_calls outs (xs ++ (y ∷ []))) →
    Accepted (opened_session machine name screen) b (send_calls outs (xs ++ (y ∷ []))) ↔ AllowedSendings machine name b.first (xs ++ (y ∷ []))
demand_2_phase_one_sent = sent_numbers.sent_one_iff

-- sending against receiving, phase one: the turn's number, 17 where the text cannot be written, the number that receiving it gives at equal tables, 15
pub demand_2_sent_number_one : (s : Session) (b : Buffers) (word : WordOne) (arguments body : List ℕ) → are_bytes body ≡ true → (out : List ℕ) →
    let line = one.line_sent word arguments in let text = stanza_text line body in
    (outcome s b (send word arguments body out)).number ≡ sending_number (turn_one s.phase) (is_writable line body) (outcome s b (receive text)).number (shortness text out)
demand_2_sent_number_one = sent_numbers.sent_number_one

-- phase two: the same, received to an output that is long enough, with 19 before 8
pub demand_2_sent_number_two : (s : Session) (b : Buffers) (word : WordTwo) (arguments body : List ℕ) → are_bytes body ≡ true → (out big : List ℕ) →
    let line = line_sent word arguments in let text = stanza_text line body in ((outcome s b (receive_two text big)).number ≡ 15 → ⊥) →
    (outcome s b (send_two word arguments body out)).number ≡
    sending_number (turn_two s.phase) (is_writable line body) (held_number (is_held_back s.tables (command_two s.machine line body)) (outcome s b (receive_two text big)).number) (shortness text out)
demand_2_sent_number_two = sent_numbers.sent_number_two

-- phase two at the client end, commands with replies, received by a session that has just sent done
pub demand_2_client : (s : Session) (b : Buffers) → JustDone s → (p : Phase) → IsPhase two_part p → (outs : Supply) → LongEnough s b (calls_of two_part outs (blocks_of p)) →
    Accepted s b (calls_of two_part outs (blocks_of p)) ↔ AllowedTwo s.machine s.screen (left_of (state_of s b)) (capacity_of b) (blocks_of p)
demand_2_client s b j p h outs l = two_accepted.accepted_two_iff s b (just_done s j) p h outs l

-- .. of any calls of the client end at all: accepted to the end of the phase exactly those that have its shape and are allowed
pub demand_2_client_exact : (s : Session) (b : Buffers) → JustDone s → (cs : List Call) → All (λ c. is_client c ≡ true) cs → LongEnough s b cs →
    AcceptedTo Ended s b cs ↔ ((p : ShapedTwo cs) × AllowedTwo s.machine s.screen (left_of (state_of s b)) (capacity_of b) (blocks_of p.phase))
demand_2_client_exact s b j cs k l = two_shaped.shaped_two_iff s b (just_done s j) cs k l

-- .. and accepted but not to its end, exactly those cut before done that are allowed so far; `q` is the phase then, two or that of waiting for a reply
pub demand_2_client_so_far : (s : Session) (b : Buffers) → JustDone s → (cs : List Call) → All (λ c. is_client c ≡ true) cs → LongEnough s b cs → (q : SessionPhase) → (q ≡ Ended → ⊥) →
    AcceptedTo q s b cs ↔ ((p : FrontTwo cs) × AllowedTwoSoFar s.machine s.screen (left_of (state_of s b)) (capacity_of b) q p.blocks)
demand_2_client_so_far s b j cs k l q n = two_shaped.front_two_iff s b (just_done s j) cs k l q n

-- phase two at the plugin end, sendings with the responses received, by a session that has just received done
pub demand_2_plugin : (s : Session) (b : Buffers) → JustReceived s → (outs : Supply) (xs : List Exchange) (y : Exchange) → All (λ x. is_done_sent x ≡ false) xs → is_done_sent y ≡ true →
    LongEnough s b (sending_calls outs (xs ++ (y ∷ []))) →
    Accepted s b (sending_calls outs (xs ++ (y ∷ []))) ↔ AllowedSent s.machine (left_of (state_of s b)) (capacity_of b) (xs ++ (y ∷ []))
demand_2_plugin s b j = sent_accepted.accepted_sent_iff s b (just_received_done s j)

-- .. of any calls of the plugin end at all: accepted to the end of the phase exactly those that have its shape and are allowed
pub demand_2_plugin_exact : (s : Session) (b : Buffers) → JustReceived s → (cs : List Call) → All (λ c. is_client c ≡ false) cs → LongEnough s b cs →
    AcceptedTo Ended s b cs ↔ ((p : ShapedSent cs) × AllowedSent s.machine (left_of (state_of s b)) (capacity_of b) (p.ahead ++ (p.last ∷ [])))
demand_2_plugin_exact s b j = sent_shaped.shaped_sent_iff s b (just_received_done s j)

-- .. and accepted but not to its end, exactly those cut before done that are allowed so far; `q` is the phase then, two or that of awaiting a response
pub demand_2_plugin_so_far : (s : Session) (b : Buffers) → JustReceived s → (cs : List Call) → All (λ c. is_client c ≡ false) cs → LongEnough s b cs → (q : SessionPhase) → (q ≡ Ended → ⊥) →
    AcceptedTo q s b cs ↔ ((p : FrontSent cs) × AllowedSentSoFar s.machine (left_of (state_of s b)) (capacity_of b) q p.exchanges)
demand_2_plugin_so_far s b j = sent_shaped.front_sent_iff s b (just_received_done s j)

-- "What is written reads back": a command of phase one, a command of phase two, a response at once, a reply
pub demand_2_sent_one : (s : Session) (b : Buffers) (word : WordOne) (arguments body out : List ℕ) → are_bytes body ≡ true → (outcome s b (send word arguments body out)).number ≡ 0 →
    OneReadsBack (one.line_sent word arguments) body (written_by s b (send word arguments body out))
demand_2_sent_one = written_read.phase_one_written

pub demand_2_sent_two : (s : Session) (b : Buffers) (word : WordTwo) (arguments body out : List ℕ) → are_bytes body ≡ true → (outcome s b (send_two word arguments body out)).number ≡ 0 →
    TwoReadsBack (line_sent word arguments) body (written_by s b (send_two word arguments body out))
demand_2_sent_two = written_read.command_written

pub demand_2_at_once : (s : Session) (b : Buffers) (text out : List ℕ) (r : Response) → (outcome s b (receive_two text out)).number ≡ 0 →
    at_once s.screen (command_in s.machine text) ≡ writes r → ResponseReadsBack r [] (written_by s b (receive_two text out))
demand_2_at_once = written_read.at_once_written

pub demand_2_reply : (s : Session) (b : Buffers) (r : Response) (body out : List ℕ) → are_bytes body ≡ true → (outcome s b (reply r body out)).number ≡ 0 →
    ResponseReadsBack r body (written_by s b (reply r body out))
demand_2_reply = written_read.response_written

-- "what is read would be written so again"
pub demand_2_again : (t : List ℕ) (e n k : ℕ) → read_first t ≡ stanza e n k → ReceivedAgain t k
demand_2_again = written_read.received_again

-- "Each phase-two command but done is answered exactly once if it is accepted and its phase ends": commands and responses pair one to one and in order
pub demand_2_answers : (machine name : List ℕ) (screen : Bool) (b : Buffers) (cs : List Call) →
    let s = (opened machine name screen).session in (after s b cs).session.phase ≡ Ended → Paired (events s b cs)
demand_2_answers = answering.answers_opened

-- "how many bytes that was", "gives back which it was": a command received with the word that its text names, the bytes taken and the bytes written; a response with
-- the one that its text is, the bytes taken and its body's length; a sending or a reply with the bytes written; a refused call nothing
pub demand_2_given : (s : Session) (b : Buffers) (c : Call) → GivenBack s b c
demand_2_given = giving.given

-- the words that are given back are the text's own: a command's word has the text that stands in the table, in phase one and in phase two; and a response is its whole
-- arguments' text, so "ok no" is no ok
pub demand_2_word_one : (machine : Machine) (w : List ℕ) → (one.word_in machine w ≡ one.other_word → ⊥) → one.text_of_word (one.word_in machine w) ≡ w
demand_2_word_one = one_word_laws.word_text

pub demand_2_word_two : (machine : Machine) (w : List ℕ) → (word_two machine w ≡ Other → ⊥) → text_of_word (word_two machine w) ≡ w
demand_2_word_two = two_words_laws.word_text

pub demand_2_response : (line : List ℕ) (r : Response) → (response_of line ≡ response r) ↔ (line ≡ response_line r)
demand_2_response line r = (response_texts.line_read_lem line r, λ e. ap response_of e ∙ response_texts.read_line r)

-- ---- Number inside the file (document 02, No. 2: "in error stanza f i, i counts the header stanzas of file f from 0 in the order received")

-- at both ends error stanza f i gives 6 exactly if file f has i or fewer
pub in_file_six : (machine name : List ℕ) (screen : Bool) (cs : List CallWith) (b : Buffers) (line body : List ℕ) (f i : ℕ) → let s = after_each (opened machine name screen).session cs in
    SaysTwo s.machine line body (reports (header f i)) → MissingIn s b (in_two line body) ↔ (length (of_file f (view_of (first headers) s.tables b)) ≤ i)
in_file_six machine name screen cs b line body f i = conditions.stanza_missing (after_each (opened machine name screen).session cs) b (made machine name screen cs) line body f i

-- .. it passes 6 exactly if f i names one of the header stanzas: the n-th accepted, whose index is f and before which exactly i have index f
pub in_file_passes : (machine name : List ℕ) (screen : Bool) (cs : List CallWith) (b : Buffers) (line body : List ℕ) (f i : ℕ) →
    let s = after_each (opened machine name screen).session cs in SaysTwo s.machine line body (reports (header f i)) →
    (MissingIn s b (in_two line body) → ⊥) ↔ ((n : ℕ) × Names (view_of (first headers) s.tables b) f i n)
in_file_passes machine name screen cs b line body f i =
    stanza_names.passes_six (after_each (opened machine name screen).session cs) b (made machine name screen cs) line body f i

-- .. so an accepted one names one
pub in_file_names : (machine name : List ℕ) (screen : Bool) (cs : List CallWith) (b : Buffers) (c : Call) (line body : List ℕ) (f i : ℕ) →
    let s = after_each (opened machine name screen).session cs in brought_by c ≡ in_two line body → SaysTwo s.machine line body (reports (header f i)) →
    (outcome s b c).number ≡ 0 → (n : ℕ) × Names (view_of (first headers) s.tables b) f i n
in_file_names machine name screen cs b = stanza_names.accepted_names (after_each (opened machine name screen).session cs) b (made machine name screen cs)

-- .. and naming is one to one, in any table: each stanza has one pair f i, and each f i with i less than what file f has is one stanza's
pub in_file_one_to_one : (rows : List Row) → NamedOnce rows
in_file_one_to_one = stanza_names.named_rows

-- what an error names is kept whole: two errors with equal entries name the same (`demand_2_errors`: a look-up gives it back)
pub in_file_once : (n m : Named) → mark_of n ≡ mark_of m → index_of n ≡ index_of m → n ≡ m
in_file_once = reported.named_once

-- .. and the plugin end's done waits for error stanza f i of each nonconforming stanza, the i-th of its file f: `AllReported` in `demand_2_plugin`, `Held` in
-- `demand_1_number`

-- ---- Without a screen (document 02, No. 5: "A client session now opens without a screen, so msg, confirm and both requests are answered fail at once")

-- an opening that is not told is one without a screen
pub screen_untold : (machine name : List ℕ) → opened_untold machine name ≡ opened machine name false
screen_untold = openings.untold

-- without one each msg, confirm and request that is accepted is answered fail
pub screen_fail : (machine : Machine) (t : List ℕ) (w : WordTwo) → command_in machine t ≡ ask w → answer_to machine false t ≡ stanza_text (response_line Fail) []
screen_fail = screens.fail_at_once

-- .. in the same call: what a chunk writes are the answers to the stanzas that it took, one behind the other
pub screen_at_once : (i : Intake) (b : Buffers) (bytes out : List ℕ) → AnsweredAtOnce i b bytes (chunked client i b bytes out)
screen_at_once = screens.answered_at_once

-- .. and nothing waits, behind any calls from an opening without a screen, refused ones included, each lent buffers of its own
pub screen_nothing_waits : (machine name : List ℕ) (before : List (AnyWith client)) → NothingWaits (kept client machine name false before)
screen_nothing_waits = screens.nothing_waits

-- ---- The plugin's phase one (document 02, No. 10: "Nothing is ever due there .. 14 is then only for a call of the other phase")

-- behind any calls from an opening, refused ones included, each lent buffers of its own: until done is taken no answer is due
pub nothing_due : (machine name : List ℕ) (before : List (AnyWith plugin)) → Lasts (emptied (opened machine name false).session []) before → NothingDue (kept plugin machine name false before)
nothing_due = quiet_phase.nothing_due

-- 14 in phase one: any call of that end gives it exactly if it is of the other phase, whatever the buffers: a command of phase two, or a chunk with at least
-- one byte behind an accepted done (or a reply, which that end has none of)
pub nothing_due_number : (machine name : List ℕ) (before : List (AnyWith plugin)) (b : Buffers) (x : AnyCall) → Has plugin x →
    let i = kept plugin machine name false before in i.session.phase ≡ One → (number_at plugin i b x ≡ 14) ↔ IsOther i b x
nothing_due_number machine name before b x h =
    quiet_phase.fourteen_iff (kept plugin machine name false before) b x h (reaching.reached_bounded plugin machine name false before)

-- .. such a chunk has taken done, and the bytes that are dropped are phase two's
pub nothing_due_chunk : (machine name : List ℕ) (before : List (AnyWith plugin)) (b : Buffers) (bytes out : List ℕ) → let i = kept plugin machine name false before in
    i.session.phase ≡ One → (chunked plugin i b bytes out).number ≡ 14 → BehindDone i b bytes (chunked plugin i b bytes out)
nothing_due_chunk machine name before b bytes out = quiet_phase.chunk_behind_done (kept plugin machine name false before) b bytes out (reaching.reached_bounded plugin machine name false before)

-- .. and a command of phase two always
pub nothing_due_send : (s : Session) (b : Buffers) (word : WordTwo) (arguments body out : List ℕ) → s.phase ≡ One → (outcome s b (send_two word arguments body out)).number ≡ 14
nothing_due_send = quiet_phase.send_out_of_turn

-- ---- Input in chunks: "However a conversation is cut .. responses, tables and the closing number are those of the uncut one"

-- its core: chunk x and then chunk y is chunk x ++ y in state, and in output x's followed by y's, behind any calls, if none of the three is refused with 14 or 15 and
-- the client does not wait in between
pub chunks_joined : (e : End) (machine name : List ℕ) (screen : Bool) (before : List (AnyWith e)) (b : Buffers) (x y first_out second-out whole_out : List ℕ) →
    let i = kept e machine name screen before in let first = chunked e i b x first_out in let second = chunked e first.intake first.buffers y second-out in
    let whole = chunked e i b (x ++ y) whole_out in ((first.number ≡ 14 → ⊥) × (first.number ≡ 15 → ⊥)) → ((second.number ≡ 14 → ⊥) × (second.number ≡ 15 → ⊥)) →
    ((whole.number ≡ 14 → ⊥) × (whole.number ≡ 15 → ⊥)) → is_waiting e first.intake.session.phase ≡ false → Together first second whole
chunks_joined e machine name screen before b x y first_out second-out whole_out =
    chunks_together.together e (kept e machine name screen before) b x y first_out second-out whole_out (reaching.reached_bounded e machine name screen before)

-- the cut theorem: for both ends, every start that is not closed and keeps nothing, and every list of chunks and replies of which no call is refused with 14 or
-- 15: no call of its uncut list is; outputs, tables, buffers, phase, waiting command and closing number are equal
pub chunks_cut : (e : End) (s : Session) (b : Buffers) (cs : List Piece) → is_closed s.phase ≡ false → NoneHeldUp (chunk_lists.numbers e (emptied s []) b cs) →
    SameRun e s b (uncut e (emptied s []) b [] cs) cs
chunks_cut = cutting.cut_theorem

-- .. and that list is uncut: each stanza in a chunk of its own, each reply directly behind the command that waited when it was made
pub chunks_uncut : (e : End) (s : Session) (b : Buffers) (cs : List Piece) → NoneHeldUp (chunk_lists.numbers e (emptied s []) b cs) → IsUncut e s b (uncut e (emptied s []) b [] cs) cs
chunks_uncut = cutting.uncut_theorem

-- such starts are a plugin session just opened, and a client session that has just sent done, whatever its calls before: it keeps nothing
pub chunks_start : (machine name : List ℕ) (screen : Bool) (before : List (AnyWith client)) (b : Buffers) (word : WordOne) (arguments body out : List ℕ) → let i = kept client machine name screen before in
    (outcome i.session b (send word arguments body out)).number ≡ 0 → intake_after client i b (sends_one word arguments body out) ≡ emptied (outcome i.session b (send word arguments body out)).session []
chunks_start machine name screen before b word arguments body out = reaching.sent_empty (kept client machine name screen before) b word arguments body out (reaching.reached_keeps client machine name screen before).settled

-- so such a list does what calls of one stanza do, those of its uncut list
pub chunks_calls : (e : End) (s : Session) (b : Buffers) (cs : List Piece) → is_closed s.phase ≡ false → NoneHeldUp (chunk_lists.numbers e (emptied s []) b cs) → AsCalls e s b cs (calls_for e s b cs)
chunks_calls = chunks_called.calls_theorem

-- .. and its tables are those of the accepted commands, in order
pub chunks_tables : (k : AnyKind) (e : End) (s : Session) (b : Buffers) (cs : List Piece) → ReachedSession s → is_closed s.phase ≡ false → NoneHeldUp (chunk_lists.numbers e (emptied s []) b cs) →
    let x = chunk_lists.after e (emptied s []) b cs in view_of k x.intake.session.tables x.buffers ≡ view_of k s.tables b ++ accepted_rows k s b (calls_for e s b cs)
chunks_tables = chunks_called.chunks_tables

-- .. and each phase-two command but done is answered exactly once if it is accepted and its phase ends, behind any calls xs from an opening
pub chunks_answers : (e : End) (s : Session) (b : Buffers) (xs : List Call) (cs : List Piece) → let z = after s b xs in s.phase ≡ One → is_closed z.session.phase ≡ false →
    NoneHeldUp (chunk_lists.numbers e (emptied z.session []) z.buffers cs) → (chunk_lists.after e (emptied z.session []) z.buffers cs).intake.session.phase ≡ Ended →
    Paired (events s b (xs ++ calls_for e z.session z.buffers cs))
chunks_answers = chunks_called.chunks_answers

-- "The transcripts allowed are the ones accepted", however they are cut: phase one
pub chunks_phase_one : (x : State) (p : Phase) (cs : List Piece) → Starts one_part x.session → IsPhase one_part p → IsCut plugin x.session x.buffers cs (blocks_of p) →
    AllTaken plugin x cs ↔ Allowed x.session.machine x.session.name x.buffers.first (texts_of p)
chunks_phase_one = orders_of_cuts.cut_allowed_one

-- .. phase two
pub chunks_client : (x : State) (p : Phase) (cs : List Piece) → Starts two_part x.session → IsPhase two_part p → IsCut client x.session x.buffers cs (blocks_of p) →
    AllTaken client x cs ↔ AllowedTwo x.session.machine x.session.screen (left_of x) (capacity_of x.buffers) (blocks_of p)
chunks_client = orders_of_cuts.cut_allowed_two

-- ---- Any calls of an end, chunks, replies and commands sent, refused with whatever number: they come to calls of one stanza, for which the demands stand above

-- .. behind any calls that were each lent buffers of their own
pub any_calls_come_to : (e : End) (machine name : List ℕ) (screen : Bool) (before : List (AnyWith e)) (b : Buffers) (cs : List AnyCall) → All (Has e) cs →
    let i = kept e machine name screen before in ComesTo e i b cs (calls_all e i b cs)
any_calls_come_to e machine name screen before b cs h = any_calls.any_calls e (kept e machine name screen before) b cs (reaching.reached_keeps e machine name screen before) h

-- tables: of any calls from an opening, each kind's table is exactly the accepted commands of that kind, in order
pub any_calls_tables : (e : End) (machine name : List ℕ) (screen : Bool) (b : Buffers) (cs : List AnyCall) → All (Has e) cs → (k : AnyKind) →
    let s = (opened machine name screen).session in let z = after_any e (emptied s []) b cs in
    view_of k z.intake.session.tables z.buffers ≡ accepted_rows k s b (calls_all e (emptied s []) b cs)
any_calls_tables = any_calls.any_tables

-- answers: commands and responses pair one to one and in order, where the conversation has ended
pub any_calls_answers : (e : End) (machine name : List ℕ) (screen : Bool) (b : Buffers) (cs : List AnyCall) → All (Has e) cs → let s = (opened machine name screen).session in
    (after_any e (emptied s []) b cs).intake.session.phase ≡ Ended → Paired (events s b (calls_all e (emptied s []) b cs))
any_calls_answers = any_calls.any_answers

-- what an error names
pub any_calls_errors : (e : End) (machine name : List ℕ) (screen : Bool) (b : Buffers) (cs : List AnyCall) → All (Has e) cs → (k : ℕ) → let s = (opened machine name screen).session in
    error_named (after_any e (emptied s []) b cs).intake.session.tables k ≡ name_at (names_in s b (calls_all e (emptied s []) b cs)) k
any_calls_errors e machine name screen b cs h k =
    let s = (opened machine name screen).session in
    ap (λ (s : Session). error_named s.tables k) (any_calls.any_calls e (emptied s []) b cs (reaching.opened_keeps e machine name screen) h).session ∙ error_names.names_opened machine name screen b (calls_all e (emptied s []) b cs) k

-- "The transcripts allowed are the ones accepted": phase two at the plugin end, its commands sent and the responses in chunks, by a session that has just received
-- done, where no call is out of turn, too long for its output buffer or the end of the input: accepted to the end of the phase exactly those that have its shape
-- and are allowed
pub any_calls_plugin : (s : Session) (b : Buffers) → JustReceived s → (cs : List AnyCall) → All (Has plugin) cs → let i = emptied s [] in let ds = calls_all plugin i b cs in
    InTurn (numbers_any plugin i b cs) → LongEnough s b ds → (AllZero (numbers_any plugin i b cs) × ((after_any plugin i b cs).intake.session.phase ≡ Ended))
    ↔ ((p : ShapedSent ds) × AllowedSent s.machine (left_of (state_of s b)) (capacity_of b) (p.ahead ++ (p.last ∷ [])))
any_calls_plugin = any_accepted.plugin_exact

-- .. and accepted but not to its end, exactly those cut before done that are allowed so far
pub any_calls_plugin_so_far : (s : Session) (b : Buffers) → JustReceived s → (cs : List AnyCall) → All (Has plugin) cs → let i = emptied s [] in let ds = calls_all plugin i b cs in
    InTurn (numbers_any plugin i b cs) → LongEnough s b ds → (q : SessionPhase) → (q ≡ Ended → ⊥) → (AllZero (numbers_any plugin i b cs) × ((after_any plugin i b cs).intake.session.phase ≡ q))
    ↔ ((p : FrontSent ds) × AllowedSentSoFar s.machine (left_of (state_of s b)) (capacity_of b) q p.exchanges)
any_calls_plugin_so_far = any_accepted.plugin_so_far

-- "gives back which it was": a chunk the last of the stanzas that it took, a reply the last of those that were kept back
pub chunks_last : (e : End) (i : Intake) (b : Buffers) (bytes out : List ℕ) → let o = chunked e i b bytes out in
    o.last ≡ last_from no_stanza i.session b (chunk_calls.calls_of e i.session b (map alone (take o.count (parted_chunk e i b bytes).received)))
chunks_last = last_taken.chunk_last

pub chunks_reply_last : (i : Intake) (b : Buffers) (r : Response) (body out : List ℕ) → let o = replied i b r body out in let s = behind_reply i.session in
    o.last ≡ last_from no_stanza s b (chunk_calls.calls_of client s b (map alone (take o.count (parted_back i b).received)))
chunks_reply_last = last_taken.reply_last

-- "What is written reads back": what any calls of an end send, behind any calls, is the texts of the stanzas that were sent, and each reads back
pub any_calls_sent : (e : End) (machine name : List ℕ) (screen : Bool) (before : List (AnyWith e)) (b : Buffers) (cs : List AnyCall) → All (Has e) cs → All OfBytes cs →
    let i = kept e machine name screen before in let ds = calls_all e i b cs in
    (sent_any e i b cs ≡ joined (texts_sent i.session b ds) []) × All (λ x. ReadsBack x.line x.body (text_sent x)) (stanzas_sent i.session b ds)
any_calls_sent e machine name screen before b cs h y =
    let i = kept e machine name screen before in
    let k = reaching.reached_keeps e machine name screen before in
    (sending_over.sent_texts e i b cs k h y, sending_over.sent_read e i b cs k h y)

-- .. and however it is cut, the other end takes it as the stanzas that were sent, each by itself and in order, where nothing is kept back at the end
pub any_calls_received : (e : End) (machine name : List ℕ) (screen : Bool) (before : List (AnyWith e)) (b : Buffers) (cs : List AnyCall) → All (Has e) cs → All OfBytes cs →
    (other : End) (s : Session) (b' : Buffers) (ds : List Piece) → let i = kept e machine name screen before in
    text_in ds ≡ sent_any e i b cs → NoneHeldUp (chunk_lists.numbers other (emptied s []) b' ds) → is_waiting other (chunk_lists.after other (emptied s []) b' ds).intake.session.phase ≡ false →
    stanzas_in (uncut other (emptied s []) b' [] ds) ≡ texts_sent i.session b (calls_all e i b cs)
any_calls_received e machine name screen before b cs h y = sending_over.sent_received e (kept e machine name screen before) b cs (reaching.reached_keeps e machine name screen before) h y

-- .. as it takes any whole stanzas
pub chunks_written : (e : End) (s : Session) (b : Buffers) (cs : List Piece) (ts : List (List ℕ)) → All Whole ts → text_in cs ≡ joined ts [] → NoneHeldUp (chunk_lists.numbers e (emptied s []) b cs) →
    is_waiting e (chunk_lists.after e (emptied s []) b cs).intake.session.phase ≡ false → stanzas_in (uncut e (emptied s []) b [] cs) ≡ ts
chunks_written = chunks_read.chunks_written

-- ---- The same recipient twice (document 02, No. 7)

-- behind any calls, each lent buffers of its own: 20 exactly if the call's command is judged, adds a recipient, and an earlier entry, as the buffer lent shows it, has
-- its text; so never for an identity, nor in identity-v1, where add-recipient is no known command
pub recipient_twice : (machine name : List ℕ) (screen : Bool) (cs : List CallWith) (b : Buffers) (c : Call) → let s = after_each (opened machine name screen).session cs in
    ((outcome s b c).number ≡ 20) ↔ (Judged s c × TwiceIn s b (brought_by c))
recipient_twice machine name screen cs b c = twice.twenty_iff (after_each (opened machine name screen).session cs) b (made machine name screen cs) c

-- "refused with 20, and the session closes"; the commands before it in its chunk stand (`demand_1_chunk`)
pub recipient_twice_closes : (s : Session) (b : Buffers) (text : List ℕ) → let o = outcome s b (receive text) in o.number ≡ 20 → (o.session ≡ closed s) × (o.buffers ≡ b)
recipient_twice_closes = twice.twice_closes

-- "at the client's own sending it is refused too and the session stays as before"
pub recipient_twice_stays : (s : Session) (b : Buffers) (word : WordOne) (arguments body out : List ℕ) → let o = outcome s b (send word arguments body out) in
    o.number ≡ 20 → (o.session ≡ s) × (o.buffers ≡ b) × (o.output ≡ out) × (o.size ≡ 0)
recipient_twice_stays = twice.twice_stays

-- where buffers are handed on, the recipients' texts are pairwise different, behind any calls from an opening, refused ones included
pub recipients_differ : (e : End) (machine name : List ℕ) (screen : Bool) (b : Buffers) (cs : List AnyCall) → All (Has e) cs →
    let z = after_any e (emptied (opened machine name screen).session []) b cs in Distinct (view_of (first recipients) z.intake.session.tables z.buffers)
recipients_differ = any_calls.any_recipients

-- ---- Demand 3: "Order between strangers means nothing." One theorem about two lists of calls, for both phases and both machines

-- "for any cut of either order whose last piece holds done's last byte, where each command that waits gets its host answers while it waits, at least one, and no call
-- is refused with 14 or 15": each list amounts to its phase with a stanza to a call and each reply directly behind its command
pub demand_3 : (part : Part) (x y : State) → Starts part x.session → Starts part y.session → SameStart part x y → (p q : Phase) → IsPhase part p → IsPhase part q →
    Rearranged part x.session.machine x.session.name p q → (cs ds : List Piece) →
    IsCut (end_of part) x.session x.buffers cs (blocks_of p) → IsCut (end_of part) y.session y.buffers ds (blocks_of q) → SameCuts part x y p q cs ds
demand_3 = orders_of_cuts.order_of_cuts

-- a stanza to a call is the instance with one stanza to a chunk: so received, a phase's blocks are a cut of themselves
pub demand_3_itself : (part : Part) (x : State) (p : Phase) → Starts part x.session → IsPhase part p → OneByOne part x p → IsCut (end_of part) x.session x.buffers (uncut_calls (blocks_of p)) (blocks_of p)
demand_3_itself part x p st ph h = itself.blocks_cut part x.session x.buffers p st ph h.none_held_up h.none_behind

-- .. and demand 3 of two such lists follows from it
pub demand_3_stanzas : (part : Part) (x y : State) → Starts part x.session → Starts part y.session → SameStart part x y → (p q : Phase) → IsPhase part p → IsPhase part q →
    Rearranged part x.session.machine x.session.name p q → OneByOne part x p → OneByOne part y q →
    let cs = calls_of part amples (blocks_of p) in let ds = calls_of part amples (blocks_of q) in (Accepted x.session x.buffers cs ↔ Accepted y.session y.buffers ds)
    × (Accepted x.session x.buffers cs → SameTables (after x.session x.buffers cs) (after y.session y.buffers ds))
demand_3_stanzas = itself.order_of_stanzas

-- what both rest on, as demand 3 was read before: a stanza to a call, of any output buffers that are long enough, calls refused with 14 among the others
pub demand_3_calls : (part : Part) (x y : State) → Starts part x.session → Starts part y.session → SameStart part x y → (p q : Phase) → IsPhase part p → IsPhase part q →
    Rearranged part x.session.machine x.session.name p q → (outs outs' : Supply) →
    LongEnough x.session x.buffers (calls_of part outs (blocks_of p)) → LongEnough y.session y.buffers (calls_of part outs' (blocks_of q)) →
    SameOutcome part x y p q outs outs'
demand_3_calls = ordering.order
