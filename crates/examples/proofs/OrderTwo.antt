-- The order theorem of phase two is not empty: worked lists of calls of both machines, with several kinds and in two orders, by computation; the first two meet
-- each condition of the theorem. At the end, what each condition is for. (With the same last block, a done further ahead would only have both lists refused: done
-- once and last is what the paper calls a phase.)
use Prim.Native.Nat.{ℕ, zero, suc, ◌≤◌}
use mathlib.Core.Path.{◌≡◌, refl, sym, ap, ◌∙◌}
use mathlib.Core.Bool.{Bool, true, false, true≢false}
use mathlib.Core.List.Permᴰ
use mathlib.Core.List.{List, [], ◌∷◌, ◌++◌, map}
use lib.Dec.{eqb, lit≤, eqb-zero-suc, eqb-suc-suc}
use lib.ListN.{length, take, get_or, replicate}
use native.Mathlib.Omega.{arith}
use borrow.Author.Tests.{eqb-true, eqb-false}
use Rattle.strict_base64.specs.Alphabet.{is_character, value_of, character_of}
use Rattle.strict_base64.specs.Code.{encoded, decoded, ends_well}
use Rattle.strict_base64.specs.Lines.{wrapped, unwrapped}
use Rattle.symbols.specs.Charset.{is_upper, is_lower, lower}
use Rattle.bech32.specs.Text.{is_name, is_name_byte, separator, has_tail, is_closed, is_formed, parse}
use Rattle.refusal.proofs.Laws.Booleans.{cases}
use Rattle.refusal.specs.Pick.{pick}
use Rattle.refusal.specs.Run.{all, run, is_graphic}
use Rattle.refusal.specs.Same.{same}
use Rattle.stanza.specs.Arguments.{is_word_byte, before, words, is_argument, are_arguments}
use Rattle.stanza.specs.Automaton.{next, verdict, scan}
use Rattle.stanza.specs.Grammar.{stanza_text}
use Rattle.stanza.specs.Index.{digits, read_index}
use Rattle.stanza.specs.Reading.{found}
use Rattle.responses.specs.Responses.{response_line}
use Rattle.responses.specs.declared.Response.TheVariants.{Ok, Unsupported}
use Rattle.session.specs.declared.words.WordTwo.TheVariants.{Msg, RecipientStanza, FileKey, Error, Done}
use Rattle.tables.specs.Repeats.{any_shows}
use Rattle.tables.specs.Tables.{Row}
use Rattle.phase_one.specs.Commands as one_command
use Rattle.phase_one.specs.Commands.{after_space}
use Rattle.session.specs.Opening.{recipient_v1}
use Rattle.phase_one.specs.PhaseOne as one
use Rattle.session.specs.Tables.{Tables, opened_tables}
use Rattle.phase_one.specs.Views as one_kind
use Rattle.session.specs.declared.opening.Machine.TheVariants.{RecipientV1, IdentityV1}
use Rattle.session.specs.declared.phases.Phase.TheVariants.{Two}
use Rattle.conversation.specs.Calls.{Call, send, receive_two, reply, outcome, written_by, State, state_of, after, numbers, written}
use Rattle.conversation.specs.CommandsTwo.{internal_word, identity_word, recipient_word, stanza_word, CommandTwo, ask, stanza, key, error, done, other, bad, command_two, line_sent}
use Rattle.conversation.specs.Kinds as kinds
use Rattle.conversation.specs.Kinds.{Buffers, second, view_of, of_file}
use Rattle.conversation.specs.PhaseTwo as two
use Rattle.conversation.specs.PhaseTwo.{how_many, passes, decided}
use Rattle.conversation.specs.Phases.{All, keep, Whole, line_in, body_in, two_part, Block, Phase, blocks_of, IsPhase, Supply, calls_of, reply_calls, written_in, LongEnough, CallWith, after_each, JustDone, Strand, of_kind, of_errors, of_one_file, is_in, Rearranged, SameTables, SameOutcome}
use Rattle.conversation.specs.ReceivingTwo as receiving_two
use Rattle.conversation.specs.ReceivingTwo.{at_once, text_of}
use Rattle.conversation.specs.Replying as replying
use Rattle.conversation.specs.Sending as sending
use Rattle.session.specs.Session.{Session, moved}
use Rattle.conversation.proofs.Laws.Accepted.{accepted}
use Rattle.conversation.proofs.Laws.Order.{order}
use Rattle.conversation.proofs.Laws.Refusals.{refusal}

-- the plugin's name, "x"
abbrev plugin : List ℕ
plugin = 120 ∷ []

-- ---- recipient-v1: one recipient, one identity and two file keys are sent, then done

abbrev lent : Buffers
lent = kinds.buffers_of (one.buffers_of (97 ∷ []) (98 ∷ []) (replicate 16 0 ++ replicate 16 1) []) (two.buffers_of (replicate 4 0) (replicate 8 0) [])

-- with a screen; the buffers as phase one left them
abbrev tables : Tables
tables =
    let b = lent.first in
    one.applied (one.applied (one.applied (one.applied opened_tables b (one_command.recipient 16) (97 ∷ [])) b (one_command.identity 16) (98 ∷ [])) b one_command.key (replicate 16 0)) b one_command.key (replicate 16 1)

abbrev start : State
start = state_of (record { machine = RecipientV1; name = plugin; screen = true; phase = Two; tables = tables }) lent

-- it has just sent done: the calls before
abbrev out : List ℕ
out = replicate 40 0

abbrev sends : List CallWith
sends =
    record { call = send one_command.add_recipient (97 ∷ []) [] out; buffers = lent } ∷ record { call = send one_command.add_identity (98 ∷ []) [] out; buffers = lent } ∷
    record { call = send one_command.wrap_file_key [] (replicate 16 0) out; buffers = lent } ∷ record { call = send one_command.wrap_file_key [] (replicate 16 1) out; buffers = lent } ∷
    []

pub just_done : JustDone start.session
unfolding any_shows All after_each sending.sent sending.sent_stanza is_name is_name_byte parse is_formed has_tail is_closed separator is_upper is_lower lower is_character value_of character_of encoded decoded ends_well wrapped unwrapped all run is_graphic is_word_byte before words is_argument are_arguments same
just_done = record {
  machine = recipient_v1;
  name = plugin;
  screen = true;
  before = sends;
  client = (refl, (refl, (refl, (refl, tt))));
  word = one_command.done_command;
  arguments = [];
  body = [];
  out = out;
  buffers = lent;
  is_done_command = refl;
  accepted = refl;
  reached = refl;
}

-- ---- what is received

-- a text by itself
abbrev alone : List ℕ → Block
alone t = record { text = t; replies = [] }

-- "-> recipient-stanza 0 a", the same with the tag b, and "-> recipient-stanza 1 c"
abbrev stanza_a : Block
stanza_a = alone (stanza_text (line_sent RecipientStanza (48 ∷ 32 ∷ 97 ∷ [])) [])

abbrev stanza_b : Block
stanza_b = alone (stanza_text (line_sent RecipientStanza (48 ∷ 32 ∷ 98 ∷ [])) [])

abbrev stanza_c : Block
stanza_c = alone (stanza_text (line_sent RecipientStanza (49 ∷ 32 ∷ 99 ∷ [])) [])

-- "-> msg" with a body of one byte, and the host's ok
abbrev message : Block
message = record { text = stanza_text (line_sent Msg []) (7 ∷ []); replies = record { response = Ok; body = [] } ∷ [] }

-- "-> z", which is no command
abbrev unknown : Block
unknown = alone (stanza_text (122 ∷ []) [])

-- "-> done"
abbrev end : Block
end = alone (stanza_text (line_sent Done []) [])

-- a phase, and the same commands in another order less the unknown one
abbrev given : Phase
given = record { ahead = stanza_a ∷ message ∷ unknown ∷ stanza_c ∷ stanza_b ∷ []; last = end }

abbrev turned : Phase
turned = record { ahead = stanza_c ∷ stanza_a ∷ stanza_b ∷ message ∷ []; last = end }

-- nothing of two files, of neither
neither : {X : Type 0} (x y z : X) (a b : Bool) → a ≡ false → b ≡ false → pick a (x ∷ []) [] ++ (pick b (y ∷ []) [] ++ (pick a (z ∷ []) [] ++ [])) ≡ pick b (y ∷ []) [] ++ (pick a (x ∷ []) [] ++ (pick a (z ∷ []) [] ++ []))
neither x y z false false h g = refl
neither x y z false true h g = absurd (true≢false g)
neither x y z true b h g = absurd (true≢false h)

-- both are phases
given_whole : All (λ x. Whole x.text) (blocks_of given)
unfolding All is_character value_of character_of encoded decoded ends_well wrapped unwrapped run is_graphic next verdict scan found
given_whole = (record { line = 23; body = 0; read = refl }, (record { line = 6; body = 1; read = refl }, (record { line = 4; body = 0; read = refl }, (record { line = 23; body = 0; read = refl }, (record { line = 23; body = 0; read = refl }, (record { line = 7; body = 0; read = refl }, tt))))))

pub given_phase : IsPhase two_part given
unfolding All is_character value_of character_of encoded decoded ends_well wrapped unwrapped run is_graphic next verdict scan found is_word_byte before words same
given_phase = record { whole = given_whole; quiet = (tt, (tt, (tt, (tt, (tt, (tt, tt)))))); done_once = (refl, (refl, (refl, (refl, (refl, tt))))); done_last = refl }

pub turned_phase : IsPhase two_part turned
unfolding All is_character value_of character_of encoded decoded ends_well wrapped unwrapped run is_graphic next verdict scan found is_word_byte before words same
turned_phase =
    let w = given_whole in
    record {
      whole = (w.1.1.1.0, (w.0, (w.1.1.1.1.0, (w.1.0, (w.1.1.1.1.1.0, tt)))));
      quiet = (tt, (tt, (tt, (tt, (tt, tt)))));
      done_once = (refl, (refl, (refl, (refl, tt))));
      done_last = refl;
    }

-- and rearrangements of each other
pub rearranged : Rearranged two_part RecipientV1 plugin given turned
unfolding keep command_two read_index digits is_character value_of character_of encoded decoded ends_well wrapped unwrapped run is_graphic next verdict scan found is_word_byte before words same
rearranged = record {
  same_last = refl;
  permuted = Permᴰ.trans (Permᴰ.middle stanza_c (stanza_a ∷ message ∷ []) (stanza_b ∷ [])) (Permᴰ.cons refl (Permᴰ.cons refl (Permᴰ.swap refl refl)));
  same_order = same_order;
}
  where
    same_order : (k : Strand) → keep (is_in two_part RecipientV1 plugin k) given.ahead ≡ keep (is_in two_part RecipientV1 plugin k) turned.ahead
    same_order (of_kind k) = refl
    same_order of_errors = refl
    same_order (of_one_file zero) = refl
    same_order (of_one_file (suc zero)) = refl
    same_order (of_one_file (suc (suc f))) = neither stanza_a stanza_c stanza_b (eqb 0 (suc (suc f))) (eqb 1 (suc (suc f))) (eqb-zero-suc (suc f)) (eqb-suc-suc 0 (suc f) ∙ eqb-zero-suc f)

-- output buffers of 16 bytes: "-> unsupported", LF, LF
abbrev outs : Supply
outs = λ i. replicate 16 0

abbrev calls : Phase → List Call
calls p = calls_of two_part outs (blocks_of p)

-- long enough for every call of both
at_once_short : (screen : Bool) (c : CommandTwo) → length (text_of (at_once screen c)) ≤ 16
unfolding encoded wrapped
at_once_short true (ask w) = lit≤ tt
at_once_short false (ask w) = lit≤ tt
at_once_short screen (stanza f) = lit≤ tt
at_once_short screen (key f) = lit≤ tt
at_once_short screen (error n) = lit≤ tt
at_once_short screen done = lit≤ tt
at_once_short screen other = lit≤ tt
at_once_short screen (bad n) = lit≤ tt

ok_short : length (stanza_text (response_line Ok) []) ≤ 16
unfolding encoded wrapped
ok_short = lit≤ tt

taken : (n : ℕ) (l : List ℕ) → length (take n l) ≤ n
taken zero l = omega arith
taken (suc n) [] = omega arith
taken (suc n) (x ∷ l) = omega (arith, taken n l)

module _ (s : Session) (b : Buffers) where
  -- a refused call writes nothing
  unless_refused : (c : Call) → ((outcome s b c).number ≡ 0 → (outcome s b c).size ≤ 16) → length (written_by s b c) ≤ 16
  unless_refused c h =
      let few : (outcome s b c).size ≤ 16 =
      cases (eqb (outcome s b c).number 0) (λ e. h (eqb-true (outcome s b c).number 0 e)) (λ e. omega (arith, (refusal s b c (eqb-false (outcome s b c).number 0 e)).size)) in
      omega (arith, few, taken (outcome s b c).size (outcome s b c).output)

  command_short : (text big : List ℕ) → length (written_by s b (receive_two text big)) ≤ 16
  command_short text big =
      unless_refused (receive_two text big)
      (λ z. omega (arith, (accepted s b (receive_two text big) z).written.size, at_once_short s.screen (command_two s.machine (line_in text) (body_in text))))

  reply_short : (big : List ℕ) → length (written_by s b (reply Ok [] big)) ≤ 16
  reply_short big = unless_refused (reply Ok [] big) (λ z. omega (arith, (accepted s b (reply Ok [] big) z).written.size, ok_short))

-- a command, or an ok of the host
data Heard : Type 0 where
  command : List ℕ → Heard
  ok : Heard

abbrev heard : Heard → Call
heard (command text) = receive_two text (outs 0)
heard ok = reply Ok [] (outs 0)

all_enough : (s : Session) (b : Buffers) (hs : List Heard) → LongEnough s b (map heard hs)
unfolding LongEnough
all_enough s b [] = tt
all_enough s b (command text ∷ hs) = (command_short s b text, all_enough (outcome s b (heard (command text))).session (outcome s b (heard (command text))).buffers hs)
all_enough s b (ok ∷ hs) = (reply_short s b, all_enough (outcome s b (heard ok)).session (outcome s b (heard ok)).buffers hs)

pub given_enough : LongEnough start.session start.buffers (calls given)
unfolding calls_of reply_calls
given_enough = all_enough start.session start.buffers (command stanza_a.text ∷ command message.text ∷ ok ∷ command unknown.text ∷ command stanza_c.text ∷ command stanza_b.text ∷ command end.text ∷ [])

pub turned_enough : LongEnough start.session start.buffers (calls turned)
unfolding calls_of reply_calls
turned_enough = all_enough start.session start.buffers (command stanza_c.text ∷ command stanza_a.text ∷ command stanza_b.text ∷ command message.text ∷ ok ∷ command end.text ∷ [])

-- so the theorem speaks of them
pub ordered : SameOutcome two_part start start given turned outs outs
ordered =
    order two_part start start just_done just_done (record { machine = refl; name = refl; screen = refl; views = λ k. refl; lengths = λ k. refl })
    given turned given_phase turned_phase rearranged outs outs given_enough turned_enough

-- the state behind a phase
abbrev behind : Phase → State
behind p = after start.session start.buffers (calls p)

-- both are accepted
pub both_accepted : (numbers start.session start.buffers (calls given) ≡ 0 ∷ 0 ∷ 0 ∷ 0 ∷ 0 ∷ 0 ∷ 0 ∷ []) × (numbers start.session start.buffers (calls turned) ≡ 0 ∷ 0 ∷ 0 ∷ 0 ∷ 0 ∷ 0 ∷ [])
unfolding numbers after calls_of reply_calls sending.sent sending.sent_stanza receiving_two.received receiving_two.received_stanza replying.replied_to command_two decided how_many passes is_character value_of character_of encoded decoded ends_well wrapped unwrapped all run is_graphic is_word_byte before words is_argument are_arguments same next verdict scan found digits read_index after_space
both_accepted = (refl, refl)

-- the row of a returned stanza, or key
abbrev row : ℕ → List ℕ → Row
row f p = record { payload = p; index = f; mark = 0 }

-- the returned stanzas, in the order of acceptance
abbrev given_rows : List Row
given_rows = row 0 (97 ∷ 10 ∷ []) ∷ row 1 (99 ∷ 10 ∷ []) ∷ row 0 (98 ∷ 10 ∷ []) ∷ []

abbrev turned_rows : List Row
turned_rows = row 1 (99 ∷ 10 ∷ []) ∷ row 0 (97 ∷ 10 ∷ []) ∷ row 0 (98 ∷ 10 ∷ []) ∷ []

-- of a state
abbrev seen : two.KindTwo → State → List Row
seen k x = view_of (second k) x.session.tables x.buffers

pub both_stanzas : (seen two.stanzas (behind given) ≡ given_rows) × (seen two.stanzas (behind turned) ≡ turned_rows)
unfolding numbers after calls_of reply_calls sending.sent sending.sent_stanza receiving_two.received receiving_two.received_stanza replying.replied_to command_two decided how_many passes is_character value_of character_of encoded decoded ends_well wrapped unwrapped all run is_graphic is_word_byte before words is_argument are_arguments same next verdict scan found digits read_index after_space
both_stanzas = (refl, refl)

files : (f : ℕ) → of_file f given_rows ≡ of_file f turned_rows
unfolding of_file
files zero = refl
files (suc zero) = refl
files (suc (suc f)) = neither _ _ _ (eqb 0 (suc (suc f))) (eqb 1 (suc (suc f))) (eqb-zero-suc (suc f)) (eqb-suc-suc 0 (suc f) ∙ eqb-zero-suc f)

-- what phase one left
abbrev left : one_kind.KindOne → List Row
left one_kind.recipients = record { payload = 97 ∷ []; index = 0; mark = 16 } ∷ []
left one_kind.identities = record { payload = 98 ∷ []; index = 0; mark = 16 } ∷ []
left one_kind.keys = row 0 (replicate 16 0) ∷ row 0 (replicate 16 1) ∷ []
left one_kind.headers = []

given_left : (k : one_kind.KindOne) → view_of (kinds.first k) (behind given).session.tables (behind given).buffers ≡ left k
unfolding numbers after calls_of reply_calls sending.sent sending.sent_stanza receiving_two.received receiving_two.received_stanza replying.replied_to command_two decided how_many passes is_character value_of character_of encoded decoded ends_well wrapped unwrapped all run is_graphic is_word_byte before words is_argument are_arguments same next verdict scan found digits read_index after_space
given_left one_kind.recipients = refl
given_left one_kind.identities = refl
given_left one_kind.keys = refl
given_left one_kind.headers = refl

turned_left : (k : one_kind.KindOne) → view_of (kinds.first k) (behind turned).session.tables (behind turned).buffers ≡ left k
unfolding numbers after calls_of reply_calls sending.sent sending.sent_stanza receiving_two.received receiving_two.received_stanza replying.replied_to command_two decided how_many passes is_character value_of character_of encoded decoded ends_well wrapped unwrapped all run is_graphic is_word_byte before words is_argument are_arguments same next verdict scan found digits read_index after_space
turned_left one_kind.recipients = refl
turned_left one_kind.identities = refl
turned_left one_kind.keys = refl
turned_left one_kind.headers = refl

-- errors and returned keys: none
given_none : (seen two.errors (behind given) ≡ []) × (seen two.returned (behind given) ≡ [])
unfolding numbers after calls_of reply_calls sending.sent sending.sent_stanza receiving_two.received receiving_two.received_stanza replying.replied_to command_two decided how_many passes is_character value_of character_of encoded decoded ends_well wrapped unwrapped all run is_graphic is_word_byte before words is_argument are_arguments same next verdict scan found digits read_index after_space
given_none = (refl, refl)

turned_none : (seen two.errors (behind turned) ≡ []) × (seen two.returned (behind turned) ≡ [])
unfolding numbers after calls_of reply_calls sending.sent sending.sent_stanza receiving_two.received receiving_two.received_stanza replying.replied_to command_two decided how_many passes is_character value_of character_of encoded decoded ends_well wrapped unwrapped all run is_graphic is_word_byte before words is_argument are_arguments same next verdict scan found digits read_index after_space
turned_none = (refl, refl)

-- file by file the tables are equal
pub same_tables : SameTables (behind given) (behind turned)
same_tables = record {
  views = λ k. given_left k ∙ sym (turned_left k);
  errors = given_none.0 ∙ sym turned_none.0;
  stanzas = λ f. ap (of_file f) both_stanzas.0 ∙ files f ∙ sym (ap (of_file f) both_stanzas.1);
  returned = λ f. ap (of_file f) (given_none.1 ∙ sym turned_none.1);
}

-- "-> ok", LF, LF; "-> unsupported", LF, LF
abbrev ok_text : List ℕ
ok_text = stanza_text (response_line Ok) []

abbrev unsupported_text : List ℕ
unsupported_text = stanza_text (response_line Unsupported) []

-- what is written goes with its block: nothing for the msg itself, and nothing for done
pub given_written : written_in two_part start.session start.buffers outs (blocks_of given) ≡ (ok_text ∷ []) ∷ ([] ∷ ok_text ∷ []) ∷ (unsupported_text ∷ []) ∷ (ok_text ∷ []) ∷ (ok_text ∷ []) ∷ ([] ∷ []) ∷ []
unfolding written_in written numbers after calls_of reply_calls sending.sent sending.sent_stanza receiving_two.received receiving_two.received_stanza replying.replied_to command_two decided how_many passes is_character value_of character_of encoded decoded ends_well wrapped unwrapped all run is_graphic is_word_byte before words is_argument are_arguments same next verdict scan found digits read_index after_space
given_written = refl

pub turned_written : written_in two_part start.session start.buffers outs (blocks_of turned) ≡ (ok_text ∷ []) ∷ (ok_text ∷ []) ∷ (ok_text ∷ []) ∷ ([] ∷ ok_text ∷ []) ∷ ([] ∷ []) ∷ []
unfolding written_in written numbers after calls_of reply_calls sending.sent sending.sent_stanza receiving_two.received receiving_two.received_stanza replying.replied_to command_two decided how_many passes is_character value_of character_of encoded decoded ends_well wrapped unwrapped all run is_graphic is_word_byte before words is_argument are_arguments same next verdict scan found digits read_index after_space
turned_written = refl

-- ---- identity-v1: one identity, two header stanzas for file 3 and one for file 5 are sent, then done

abbrev lent_identity : Buffers
lent_identity = kinds.buffers_of (one.buffers_of [] (98 ∷ []) [] (97 ∷ 10 ∷ 97 ∷ 10 ∷ 97 ∷ 10 ∷ [])) (two.buffers_of (replicate 4 0) [] (replicate 16 0))

abbrev start_identity : State
start_identity =
    let b = lent_identity.first in
    let twice = one.applied (one.applied (one.applied opened_tables b (one_command.identity 16) (98 ∷ [])) b (one_command.header 3 2) (97 ∷ 10 ∷ [])) b (one_command.header 3 2) (97 ∷ 10 ∷ []) in
    let t = one.applied twice b (one_command.header 5 2) (97 ∷ 10 ∷ []) in
    state_of (record { machine = IdentityV1; name = plugin; screen = false; phase = Two; tables = t }) lent_identity

-- "-> file-key 3" with its 16 bytes; "-> error stanza 5 0", the third of the session and the first of its file, "-> error internal", each with a message of one byte
abbrev file_key : Block
file_key = alone (stanza_text (line_sent FileKey (51 ∷ [])) (replicate 16 9))

abbrev error_header : Block
error_header = alone (stanza_text (line_sent Error (stanza_word ++ 32 ∷ 53 ∷ 32 ∷ 48 ∷ [])) (1 ∷ []))

abbrev error_internal : Block
error_internal = alone (stanza_text (line_sent Error internal_word) (2 ∷ []))

-- to this machine a recipient-stanza is an unknown command
abbrev given_identity : Phase
given_identity = record { ahead = file_key ∷ error_header ∷ error_internal ∷ []; last = end }

abbrev turned_identity : Phase
turned_identity = record { ahead = error_header ∷ stanza_a ∷ error_internal ∷ file_key ∷ []; last = end }

abbrev behind_identity : Phase → State
behind_identity p = after start_identity.session start_identity.buffers (calls p)

-- both are accepted
pub both_accepted_identity : (numbers start_identity.session start_identity.buffers (calls given_identity) ≡ 0 ∷ 0 ∷ 0 ∷ 0 ∷ []) × (numbers start_identity.session start_identity.buffers (calls turned_identity) ≡ 0 ∷ 0 ∷ 0 ∷ 0 ∷ 0 ∷ [])
unfolding numbers after calls_of reply_calls sending.sent sending.sent_stanza receiving_two.received receiving_two.received_stanza replying.replied_to command_two decided how_many passes is_character value_of character_of encoded decoded ends_well wrapped unwrapped all run is_graphic is_word_byte before words is_argument are_arguments same next verdict scan found digits read_index after_space
both_accepted_identity = (refl, refl)

-- the tables: what an error names is its mark and its index, 3 + 5 and 0 for header stanza 0 of file 5
abbrev error_rows : List Row
error_rows = record { payload = 1 ∷ []; index = 0; mark = 8 } ∷ record { payload = 2 ∷ []; index = 0; mark = 0 } ∷ []

abbrev key_rows : List Row
key_rows = row 3 (replicate 16 9) ∷ []

pub given_rows_identity : (seen two.errors (behind_identity given_identity) ≡ error_rows) × (seen two.returned (behind_identity given_identity) ≡ key_rows) × (seen two.stanzas (behind_identity given_identity) ≡ [])
unfolding numbers after calls_of reply_calls sending.sent sending.sent_stanza receiving_two.received receiving_two.received_stanza replying.replied_to command_two decided how_many passes is_character value_of character_of encoded decoded ends_well wrapped unwrapped all run is_graphic is_word_byte before words is_argument are_arguments same next verdict scan found digits read_index after_space
given_rows_identity = (refl, refl, refl)

pub turned_rows_identity : (seen two.errors (behind_identity turned_identity) ≡ error_rows) × (seen two.returned (behind_identity turned_identity) ≡ key_rows) × (seen two.stanzas (behind_identity turned_identity) ≡ [])
unfolding numbers after calls_of reply_calls sending.sent sending.sent_stanza receiving_two.received receiving_two.received_stanza replying.replied_to command_two decided how_many passes is_character value_of character_of encoded decoded ends_well wrapped unwrapped all run is_graphic is_word_byte before words is_argument are_arguments same next verdict scan found digits read_index after_space
turned_rows_identity = (refl, refl, refl)

-- what is written
pub given_written_identity : written_in two_part start_identity.session start_identity.buffers outs (blocks_of given_identity) ≡ (ok_text ∷ []) ∷ (ok_text ∷ []) ∷ (ok_text ∷ []) ∷ ([] ∷ []) ∷ []
unfolding written_in written numbers after calls_of reply_calls sending.sent sending.sent_stanza receiving_two.received receiving_two.received_stanza replying.replied_to command_two decided how_many passes is_character value_of character_of encoded decoded ends_well wrapped unwrapped all run is_graphic is_word_byte before words is_argument are_arguments same next verdict scan found digits read_index after_space
given_written_identity = refl

pub turned_written_identity : written_in two_part start_identity.session start_identity.buffers outs (blocks_of turned_identity) ≡ (ok_text ∷ []) ∷ (unsupported_text ∷ []) ∷ (ok_text ∷ []) ∷ (ok_text ∷ []) ∷ ([] ∷ []) ∷ []
unfolding written_in written numbers after calls_of reply_calls sending.sent sending.sent_stanza receiving_two.received receiving_two.received_stanza replying.replied_to command_two decided how_many passes is_character value_of character_of encoded decoded ends_well wrapped unwrapped all run is_graphic is_word_byte before words is_argument are_arguments same next verdict scan found digits read_index after_space
turned_written_identity = refl

-- and to recipient-v1 a file-key is one: "it is unknown there and answered unsupported"
pub file_key_unknown :
    (numbers start.session start.buffers (calls_of two_part outs (file_key ∷ [])) ≡ 0 ∷ []) × (written_in two_part start.session start.buffers outs (file_key ∷ []) ≡ (unsupported_text ∷ []) ∷ [])
unfolding written_in written numbers after calls_of reply_calls sending.sent sending.sent_stanza receiving_two.received receiving_two.received_stanza replying.replied_to command_two decided how_many passes is_character value_of character_of encoded decoded ends_well wrapped unwrapped all run is_graphic is_word_byte before words is_argument are_arguments same next verdict scan found digits read_index after_space
file_key_unknown = (refl, refl)

-- ---- what the conditions of the theorem are for

-- the numbers of blocks, and the state behind them
abbrev gives : List Block → List ℕ
gives xs = numbers start.session start.buffers (calls_of two_part outs xs)

abbrev leaves : List Block → State
leaves xs = after start.session start.buffers (calls_of two_part outs xs)

-- done once and last (IsPhase), and the same last block (Rearranged): ahead of another command done refuses it
pub done_moved : (gives (stanza_a ∷ end ∷ []) ≡ 0 ∷ 0 ∷ []) × (gives (end ∷ stanza_a ∷ []) ≡ 0 ∷ 13 ∷ [])
unfolding numbers after calls_of reply_calls sending.sent sending.sent_stanza receiving_two.received receiving_two.received_stanza replying.replied_to command_two decided how_many passes is_character value_of character_of encoded decoded ends_well wrapped unwrapped all run is_graphic is_word_byte before words is_argument are_arguments same next verdict scan found digits read_index after_space
done_moved = (refl, refl)

-- .. and behind done no answer is due: a msg without its reply may stand at the end of an accepted list, and nowhere else
abbrev asked : Block
asked = alone message.text

pub reply_due : (gives (stanza_a ∷ asked ∷ []) ≡ 0 ∷ 0 ∷ []) × (gives (asked ∷ stanza_a ∷ []) ≡ 0 ∷ 14 ∷ [])
unfolding numbers after calls_of reply_calls sending.sent sending.sent_stanza receiving_two.received receiving_two.received_stanza replying.replied_to command_two decided how_many passes is_character value_of character_of encoded decoded ends_well wrapped unwrapped all run is_graphic is_word_byte before words is_argument are_arguments same next verdict scan found digits read_index after_space
reply_due = (refl, refl)

-- a reply stands directly behind its command (Block): not behind the next
pub reply_moved :
    (numbers start.session start.buffers (receive_two message.text out ∷ reply Ok [] out ∷ receive_two stanza_a.text out ∷ []) ≡ 0 ∷ 0 ∷ 0 ∷ [])
    × (numbers start.session start.buffers (receive_two message.text out ∷ receive_two stanza_a.text out ∷ reply Ok [] out ∷ []) ≡ 0 ∷ 14 ∷ 0 ∷ [])
unfolding numbers after calls_of reply_calls sending.sent sending.sent_stanza receiving_two.received receiving_two.received_stanza replying.replied_to command_two decided how_many passes is_character value_of character_of encoded decoded ends_well wrapped unwrapped all run is_graphic is_word_byte before words is_argument are_arguments same next verdict scan found digits read_index after_space
reply_moved = (refl, refl)

-- an unknown command that is added or dropped has no reply (is_kept): with one it is refused
pub unknown_replied : gives (record { text = unknown.text; replies = message.replies } ∷ []) ≡ 0 ∷ 14 ∷ []
unfolding numbers after calls_of reply_calls sending.sent sending.sent_stanza receiving_two.received receiving_two.received_stanza replying.replied_to command_two decided how_many passes is_character value_of character_of encoded decoded ends_well wrapped unwrapped all run is_graphic is_word_byte before words is_argument are_arguments same next verdict scan found digits read_index after_space
unknown_replied = refl

-- the errors' own order (Rearranged): two of them exchanged are both accepted, and leave another table
abbrev error_identity : Block
error_identity = alone (stanza_text (line_sent Error (identity_word ++ 32 ∷ 48 ∷ [])) [])

abbrev error_recipient : Block
error_recipient = alone (stanza_text (line_sent Error (recipient_word ++ 32 ∷ 48 ∷ [])) [])

pub errors_exchanged : (gives (error_identity ∷ error_recipient ∷ []) ≡ 0 ∷ 0 ∷ []) × (gives (error_recipient ∷ error_identity ∷ []) ≡ 0 ∷ 0 ∷ [])
unfolding numbers after calls_of reply_calls sending.sent sending.sent_stanza receiving_two.received receiving_two.received_stanza replying.replied_to command_two decided how_many passes is_character value_of character_of encoded decoded ends_well wrapped unwrapped all run is_graphic is_word_byte before words is_argument are_arguments same next verdict scan found digits read_index after_space
errors_exchanged = (refl, refl)

errors_first : map (λ r. r.mark) (seen two.errors (leaves (error_identity ∷ error_recipient ∷ []))) ≡ 1 ∷ 2 ∷ []
unfolding numbers after calls_of reply_calls sending.sent sending.sent_stanza receiving_two.received receiving_two.received_stanza replying.replied_to command_two decided how_many passes is_character value_of character_of encoded decoded ends_well wrapped unwrapped all run is_graphic is_word_byte before words is_argument are_arguments same next verdict scan found digits read_index after_space
errors_first = refl

errors_second : map (λ r. r.mark) (seen two.errors (leaves (error_recipient ∷ error_identity ∷ []))) ≡ 2 ∷ 1 ∷ []
unfolding numbers after calls_of reply_calls sending.sent sending.sent_stanza receiving_two.received receiving_two.received_stanza replying.replied_to command_two decided how_many passes is_character value_of character_of encoded decoded ends_well wrapped unwrapped all run is_graphic is_word_byte before words is_argument are_arguments same next verdict scan found digits read_index after_space
errors_second = refl

pub errors_differ : SameTables (leaves (error_identity ∷ error_recipient ∷ [])) (leaves (error_recipient ∷ error_identity ∷ [])) → ⊥
errors_differ same = omega (arith, ap (λ l. get_or l 0 0) (sym errors_first ∙ ap (map (λ r. r.mark)) same.errors ∙ errors_second))

-- a file's own order (Rearranged): two of its stanzas exchanged likewise
stanzas_first : seen two.stanzas (leaves (stanza_a ∷ stanza_b ∷ [])) ≡ row 0 (97 ∷ 10 ∷ []) ∷ row 0 (98 ∷ 10 ∷ []) ∷ []
unfolding numbers after calls_of reply_calls sending.sent sending.sent_stanza receiving_two.received receiving_two.received_stanza replying.replied_to command_two decided how_many passes is_character value_of character_of encoded decoded ends_well wrapped unwrapped all run is_graphic is_word_byte before words is_argument are_arguments same next verdict scan found digits read_index after_space
stanzas_first = refl

stanzas_second : seen two.stanzas (leaves (stanza_b ∷ stanza_a ∷ [])) ≡ row 0 (98 ∷ 10 ∷ []) ∷ row 0 (97 ∷ 10 ∷ []) ∷ []
unfolding numbers after calls_of reply_calls sending.sent sending.sent_stanza receiving_two.received receiving_two.received_stanza replying.replied_to command_two decided how_many passes is_character value_of character_of encoded decoded ends_well wrapped unwrapped all run is_graphic is_word_byte before words is_argument are_arguments same next verdict scan found digits read_index after_space
stanzas_second = refl

pub stanzas_differ : SameTables (leaves (stanza_a ∷ stanza_b ∷ [])) (leaves (stanza_b ∷ stanza_a ∷ [])) → ⊥
unfolding of_file
stanzas_differ same = omega (arith, ap (λ rs. get_or (get_or (map (λ r. r.payload) rs) 0 []) 0 0) (sym (ap (of_file 0) stanzas_first) ∙ same.stanzas 0 ∙ ap (of_file 0) stanzas_second))

-- equal views of phase one (SameStart): without the second file key a stanza for file 1 names nothing
abbrev fewer : Session
fewer =
    let b = lent.first in
    moved start.session Two (one.applied (one.applied opened_tables b (one_command.recipient 16) (97 ∷ [])) b one_command.key (replicate 16 0))

pub views_differ : (gives (stanza_c ∷ []) ≡ 0 ∷ []) × (numbers fewer lent (calls_of two_part outs (stanza_c ∷ [])) ≡ 6 ∷ [])
unfolding numbers after calls_of reply_calls sending.sent sending.sent_stanza receiving_two.received receiving_two.received_stanza replying.replied_to command_two decided how_many passes is_character value_of character_of encoded decoded ends_well wrapped unwrapped all run is_graphic is_word_byte before words is_argument are_arguments same next verdict scan found digits read_index after_space
views_differ = (refl, refl)

-- .. equal machines: a recipient-stanza is kept in the one and unknown in the other, as above; and a screen in both or in neither
abbrev unseen : Session
unseen = record { machine = RecipientV1; name = plugin; screen = false; phase = Two; tables = tables }

pub screens_differ : (gives (message ∷ []) ≡ 0 ∷ 0 ∷ []) × (numbers unseen lent (calls_of two_part outs (message ∷ [])) ≡ 0 ∷ 14 ∷ [])
unfolding numbers after calls_of reply_calls sending.sent sending.sent_stanza receiving_two.received receiving_two.received_stanza replying.replied_to command_two decided how_many passes is_character value_of character_of encoded decoded ends_well wrapped unwrapped all run is_graphic is_word_byte before words is_argument are_arguments same next verdict scan found digits read_index after_space
screens_differ = (refl, refl)

-- .. and buffers of equal lengths
abbrev narrow : Buffers
narrow = kinds.buffers_of lent.first (two.buffers_of [] (0 ∷ []) [])

pub lengths_differ : numbers start.session narrow (calls_of two_part outs (stanza_a ∷ [])) ≡ 8 ∷ []
unfolding numbers after calls_of reply_calls sending.sent sending.sent_stanza receiving_two.received receiving_two.received_stanza replying.replied_to command_two decided how_many passes is_character value_of character_of encoded decoded ends_well wrapped unwrapped all run is_graphic is_word_byte before words is_argument are_arguments same next verdict scan found digits read_index after_space
lengths_differ = refl

-- output buffers that are long enough (LongEnough): 6 bytes for "-> ok", LF, LF
pub output_short : numbers start.session start.buffers (calls_of two_part (λ i. replicate 6 0) (stanza_a ∷ [])) ≡ 15 ∷ []
unfolding numbers after calls_of reply_calls sending.sent sending.sent_stanza receiving_two.received receiving_two.received_stanza replying.replied_to command_two decided how_many passes is_character value_of character_of encoded decoded ends_well wrapped unwrapped all run is_graphic is_word_byte before words is_argument are_arguments same next verdict scan found digits read_index after_space
output_short = refl
