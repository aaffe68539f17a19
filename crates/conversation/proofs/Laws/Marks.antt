-- Each entry of the recipients' and of the identities' table has the mark of its text for the session's name.
use Prim.Native.Nat.{ℕ}
use mathlib.Core.Bool.{◌&&◌}
use mathlib.Core.List.{List, [], ◌∷◌}
use lib.Dec.{eqb, leb}
use lib.ListN.{length}
use Rattle.refusal.proofs.Laws.Booleans.{cases}
use Rattle.stanza.specs.Arguments.{count_of, argument_of}
use Rattle.stanza.specs.Index.{ReadIndex, number, refused, read_index}
use Rattle.bech32.specs.Text as bech32
use Rattle.bech32.specs.Faults.{Marked}
use Rattle.bech32.proofs.Laws.Text.{recipient_plain, identity_plain}
use Rattle.bech32.proofs.Laws.Faults.{marked}
use Rattle.session.specs.declared.opening.Machine.{Machine}
use Rattle.phase_one.specs.Commands.{CommandOne, recipient, identity, key, header, done, other, bad, WordOne, add_recipient, add_identity, wrap_file_key, recipient_stanza, done_command, other_word, word_in, is_bare, header_mark, indexed, row_command, payload_of}
use Rattle.phase_one.specs.Views.{recipients, identities, rows_of}
use Rattle.conversation.specs.Phases.{All, line_in, body_in, rows_from}
use Rattle.conversation.specs.Allowed.{rows_in}
use Rattle.conversation.specs.Marks.{MarkedRows}
use Rattle.conversation.proofs.Laws.Lists.{all_append}

module _ (name : List ℕ) where
  -- the entry that a command makes
  IsMarked : CommandOne → List ℕ → Type 0
  IsMarked (recipient m) p = Marked bech32.recipient p name m
  IsMarked (identity m) p = Marked bech32.identity p name m
  IsMarked key p = Unit
  IsMarked (header i m) p = Unit
  IsMarked done p = Unit
  IsMarked other p = Unit
  IsMarked (bad n) p = Unit

  index_marked : (i : ReadIndex) (m : ℕ) (line body : List ℕ) → IsMarked (indexed i m) (payload_of (indexed i m) line body)
  unfolding IsMarked
  index_marked (number i) m line body = tt
  index_marked (refused n) m line body = tt

  command_marked : (w : WordOne) (line body : List ℕ) → IsMarked (row_command w name line (length body)) (payload_of (row_command w name line (length body)) line body)
  unfolding IsMarked
  command_marked add_recipient line body = cases (eqb (count_of line) 2 && eqb (length body) 0) (λ e. rw e (marked bech32.recipient recipient_plain (argument_of line 1) name)) (λ e. rw e tt)
  command_marked add_identity line body = cases (eqb (count_of line) 2 && eqb (length body) 0) (λ e. rw e (marked bech32.identity identity_plain (argument_of line 1) name)) (λ e. rw e tt)
  command_marked wrap_file_key line body = cases (is_bare line (length body) 16) (λ e. rw e tt) (λ e. rw e tt)
  command_marked recipient_stanza line body = cases (leb 3 (count_of line)) (λ e. rw e (index_marked (read_index (argument_of line 1)) (header_mark name line (length body)) line body)) (λ e. rw e tt)
  command_marked done_command line body = cases (is_bare line (length body) 0) (λ e. rw e tt) (λ e. rw e tt)
  command_marked other_word line body = tt

  rows_marked : (c : CommandOne) (p : List ℕ) → IsMarked c p → MarkedRows name (rows_of c recipients p) (rows_of c identities p)
  unfolding IsMarked All
  rows_marked (recipient m) p h = record { of_recipients = (h, tt); of_identities = tt }
  rows_marked (identity m) p h = record { of_recipients = tt; of_identities = (h, tt) }
  rows_marked key p h = record { of_recipients = tt; of_identities = tt }
  rows_marked (header i m) p h = record { of_recipients = tt; of_identities = tt }
  rows_marked done p h = record { of_recipients = tt; of_identities = tt }
  rows_marked other p h = record { of_recipients = tt; of_identities = tt }
  rows_marked (bad n) p h = record { of_recipients = tt; of_identities = tt }

-- the tables of any commands
pub marked_rows : (machine : Machine) (name : List ℕ) (ts : List (List ℕ)) → MarkedRows name (rows_in machine name recipients ts) (rows_in machine name identities ts)
unfolding rows_in All
marked_rows machine name [] = record { of_recipients = tt; of_identities = tt }
marked_rows machine name (t ∷ ts) =
    let c = row_command (word_in machine (argument_of (line_in t) 0)) name (line_in t) (length (body_in t)) in
    let one = rows_marked name c (payload_of c (line_in t) (body_in t)) (command_marked name (word_in machine (argument_of (line_in t) 0)) (line_in t) (body_in t)) in
    let more = marked_rows machine name ts in
    record {
      of_recipients = (all_append (λ r. Marked bech32.recipient r.payload name r.mark) (rows_from machine name recipients t) (rows_in machine name recipients ts)).1 (one.of_recipients, more.of_recipients);
      of_identities = (all_append (λ r. Marked bech32.identity r.payload name r.mark) (rows_from machine name identities t) (rows_in machine name identities ts)).1 (one.of_identities, more.of_identities);
    }
