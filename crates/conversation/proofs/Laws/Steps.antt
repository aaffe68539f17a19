-- One whole stanza that a session in phase one receives: when it is accepted, and what it leaves.
use Prim.Native.Nat.{ℕ, ◌+◌}
use mathlib.Core.Path.{◌≡◌, refl, sym, ap, ◌∙◌, subst}
use mathlib.Core.Bool.{Bool, true, false, ◌&&◌, false≢true}
use mathlib.Core.Logic.{◌↔◌, ⊎_elim}
use mathlib.Core.List.{List, ◌++◌}
use lib.Dec.{eqb, leb}
use lib.ListN.{length, take, drop}
use native.Mathlib.Omega.{arith}
use borrow.Author.Tests.{eqb-true, eq-eqb}
use Rattle.refusal.specs.Pick.{pick}
use Rattle.refusal.specs.Same.{same}
use Rattle.refusal.proofs.Laws.Booleans.{and_true, cases}
use Rattle.strict_base64.specs.Lines.{body_of}
use Rattle.stanza.specs.Arguments.{is_line, count_of, argument_of}
use Rattle.stanza.specs.Grammar.{stanza_text}
use Rattle.stanza.specs.Index.{read_index}
use Rattle.stanza.proofs.Laws.Index.{read_index_lem}
use Rattle.stanza.proofs.Laws.RoundTrip.{written_read}
use Rattle.bech32.specs.Text.{parse}
use Rattle.bech32.specs.Calls.{form_of, mark_of}
use Rattle.bech32.specs.declared.TextKind.{TextKind}
use Rattle.bech32.specs.declared.TextKind.TheVariants as the_kind
use Rattle.tables.specs.Repeats.{repeats}
use Rattle.tables.specs.Tables.{Row, fits}
use Rattle.session.specs.declared.opening.Machine.{Machine}
use Rattle.session.specs.declared.opening.Machine.TheVariants.{RecipientV1, IdentityV1}
use Rattle.session.specs.declared.phases.Phase.TheVariants.{One}
use Rattle.phase_one.specs.Commands.{WordOne, add_recipient, add_identity, wrap_file_key, recipient_stanza, done_command, other_word, add_recipient_text, add_identity_text, wrap_file_key_text, recipient_stanza_text, done_word, word_in, CommandOne, recipient, identity, key, header, done, other, bad, text_of_kind, text_command, header_mark, indexed, is_bare, row_command, word_of}
use Rattle.session.specs.Tables.{Tables}
use Rattle.phase_one.specs.PhaseOne.{BuffersOne, falls, decided, applied, filled_by, payload_in}
use Rattle.refusal.specs.Verdict.{first_of}
use Rattle.phase_one.specs.Views.{KindOne, recipients, identities, keys, headers, table_of, buffer_of, view_of, rows_of}
use Rattle.phase_one.proofs.Laws.Views.{Reached, applied_reached, applied_view, payload_stored, space, recipient_space, header_space}
use Rattle.phase_one.specs.Turns.{phase_after}
use Rattle.session.specs.Session.{Session, moved, opened_session}
use Rattle.conversation.specs.Receiving.{Received, took, refused_receipt, received_stanza, received_as, received}
use Rattle.conversation.specs.Calls.{receive, taking_number, outcome, line_read, body_read}
use Rattle.conversation.specs.Phases.{Whole, line_in, body_in, is_done, command_of, rows_from}
use Rattle.conversation.specs.Allowed.{is_right}
use Rattle.conversation.specs.Kinds.{buffers_of}
use Rattle.conversation.specs.PhaseTwo as two
use Rattle.conversation.proofs.Laws.Limits.{Within, Held, Grown, same as unchanged, more, within_fits, grown_within, grown_length, grown_held}

-- ---- a command that was read: only the word done makes done, and no fault has the number 0

abbrev pub Proper : Bool → CommandOne → Type 0
Proper d (recipient m) = Unit
Proper d (identity m) = Unit
Proper d key = Unit
Proper d (header i m) = Unit
Proper d done = d ≡ true
Proper d other = Unit
Proper d (bad n) = n ≡ 0 → ⊥

four : ◌≡◌ {A = ℕ} 4 0 → ⊥
four e = omega arith

module _ (d : Bool) where
  text_proper : (k : TextKind) (f : Bool) (m : ℕ) → Proper d (pick f (text_of_kind k m) (bad 4))
  text_proper the_kind.Recipient true m = tt
  text_proper the_kind.Identity true m = tt
  text_proper k false m = four

  key_proper : (f : Bool) → Proper d (pick f key (bad 4))
  key_proper true = tt
  key_proper false = four

  header_proper : (f : Bool) (t : List ℕ) (m : ℕ) → Proper d (pick f (indexed (read_index t) m) (bad 4))
  header_proper true t m =
      ⊎_elim (λ j. subst (λ r. Proper d (indexed r m)) (sym j.1) tt) (λ e. subst (λ r. Proper d (indexed r m)) (sym e) (λ z. omega arith)) (read_index_lem t)
  header_proper false t m = four

done_proper : (f : Bool) → Proper true (pick f done (bad 4))
done_proper true = refl
done_proper false = four

module _ (g l : List ℕ) (n : ℕ) where
  either : (d f : Bool) (v w : WordOne) → Proper d (row_command v g l n) → Proper d (row_command w g l n) → Proper d (row_command (pick f v w) g l n)
  either d true v w p q = p
  either d false v w p q = q

  last_proper : (d : Bool) → Proper d (row_command (pick d done_command other_word) g l n)
  last_proper true = done_proper (is_bare l n 0)
  last_proper false = tt

  text_row : (d : Bool) (k : TextKind) → Proper d (text_command k g l n)
  text_row d k = text_proper d k (eqb (count_of l) 2 && eqb n 0) (mark_of (parse (form_of k) (argument_of l 1)) g)

  word_proper : (m : Machine) (w : List ℕ) → Proper (same w done_word) (row_command (word_in m w) g l n)
  word_proper RecipientV1 w =
      let d = same w done_word in
      let k = pick (same w wrap_file_key_text) wrap_file_key (pick d done_command other_word) in
      either d (same w add_recipient_text) add_recipient (pick (same w add_identity_text) add_identity k) (text_row d the_kind.Recipient)
      (either d (same w add_identity_text) add_identity k (text_row d the_kind.Identity)
      (either d (same w wrap_file_key_text) wrap_file_key (pick d done_command other_word) (key_proper d (is_bare l n 16)) (last_proper d)))
  word_proper IdentityV1 w =
      let d = same w done_word in
      either d (same w add_identity_text) add_identity (pick (same w recipient_stanza_text) recipient_stanza (pick d done_command other_word)) (text_row d the_kind.Identity)
      (either d (same w recipient_stanza_text) recipient_stanza (pick d done_command other_word) (header_proper d (leb 3 (count_of l)) (argument_of l 1) (header_mark g l n)) (last_proper d))

pub proper_phase : (c : CommandOne) → Proper false c → phase_after c ≡ One
proper_phase (recipient m) h = refl
proper_phase (identity m) h = refl
proper_phase key h = refl
proper_phase (header i m) h = refl
proper_phase done h = absurd (false≢true h)
proper_phase other h = refl
proper_phase (bad n) h = refl

-- ---- what the decision says of each kind

module _ (t : Tables) (b : BuffersOne) where
  -- by the command alone: in its own kind one entry more, where it fits; nothing in another
  pub grown : (c : CommandOne) (p : List ℕ) (k : KindOne) →
      Grown k (table_of k t) (buffer_of k b) (decided t b c p) (rows_of c k p) (table_of k (applied t b c p)) (buffer_of k (filled_by t b c p))
  grown (recipient m) p recipients = more p 0 m (recipient_space (repeats t.recipients b.recipients p) (fits t.recipients (length p) (length b.recipients)))
  grown (recipient m) p identities = unchanged
  grown (recipient m) p keys = unchanged
  grown (recipient m) p headers = unchanged
  grown (identity m) p recipients = unchanged
  grown (identity m) p identities = more p 0 m (λ z. (space (fits t.identities (length p) (length b.identities)) z, tt))
  grown (identity m) p keys = unchanged
  grown (identity m) p headers = unchanged
  grown key p recipients = unchanged
  grown key p identities = unchanged
  grown key p keys = more p 0 0 (λ z. (space (fits t.keys (length p) (length b.keys)) z, tt))
  grown key p headers = unchanged
  grown (header i m) p recipients = unchanged
  grown (header i m) p identities = unchanged
  grown (header i m) p keys = unchanged
  grown (header i m) p headers = more p i m (header_space (falls t.headers i) (fits t.headers (length p) (length b.headers)))
  grown done p k = unchanged
  grown other p k = unchanged
  grown (bad n) p k = unchanged

  decided_right : (d : Bool) (c : CommandOne) (p : List ℕ) → Proper d c → decided t b c p ≡ 0 → is_right c ≡ true
  decided_right d (recipient m) p h z = refl
  decided_right d (identity m) p h z = refl
  decided_right d key p h z = refl
  decided_right d (header i m) p h z = refl
  decided_right d done p h z = refl
  decided_right d other p h z = refl
  decided_right d (bad k) p h z = absurd (h z)

  -- every kind's table and buffer
  abbrev pub Going : Type 0
  Going = (k : KindOne) → Held k (table_of k t) (buffer_of k b)

  -- rows more are within every kind's limits
  abbrev pub Fitting : (KindOne → List Row) → Type 0
  Fitting rows = (k : KindOne) → Within k (length (buffer_of k b)) (view_of k t b ++ rows k)

  decided_zero : (c : CommandOne) (p : List ℕ) → Going → is_right c ≡ true → Fitting (λ k. rows_of c k p) → decided t b c p ≡ 0
  decided_zero (recipient m) p g h w =
      let f = within_fits t.recipients b.recipients (record { payload = p; index = 0; mark = m }) recipients (g recipients) (w recipients) in
      rw (f.1, f.0)
  decided_zero (identity m) p g h w = rw (within_fits t.identities b.identities (record { payload = p; index = 0; mark = m }) identities (g identities) (w identities)).0
  decided_zero key p g h w = rw (within_fits t.keys b.keys (record { payload = p; index = 0; mark = 0 }) keys (g keys) (w keys)).0
  decided_zero (header i m) p g h w =
      let f = within_fits t.headers b.headers (record { payload = p; index = i; mark = m }) headers (g headers) (w headers) in
      rw (f.1, f.0)
  decided_zero done p g h w = refl
  decided_zero other p g h w = refl
  decided_zero (bad n) p g h w = absurd (false≢true h)

-- ---- one whole stanza

first_same : (n : ℕ) → first_of n 0 ≡ n
first_same n = cases (eqb n 0) (λ e. rw e (sym (eqb-true n 0 e))) (λ e. rw e)

-- its arguments' text is one that can be written
whole_line : (x : List ℕ) → Whole x → is_line (line_in x) ≡ true
whole_line x w =
    let l = drop 3 (take w.line x) in
    let y = body_of (drop (w.line + 1) (take (length x) x)) in
    ap (λ r. is_line (line_read r x)) w.read ∙ (and_true (is_line l) (leb (length (stanza_text l y)) 8192) (written_read x w.line w.body (length x) w.read).writable).0

module _ (machine : Machine) (name : List ℕ) where
  -- the payload of a text
  abbrev pub payload : List ℕ → List ℕ
  payload x = payload_in machine name (line_in x) (body_in x)

  pub proper : (x : List ℕ) → Proper (is_done x) (command_of machine name x)
  proper x = word_proper name (line_in x) (length (body_in x)) machine (argument_of (line_in x) 0)

  module _ (t : Tables) (b : BuffersOne) where
    -- the decision of a text; the tables and the buffers behind it where it is accepted
    abbrev pub judged : List ℕ → ℕ
    judged x = decided t b (command_of machine name x) (payload x)

    abbrev pub tables_with : List ℕ → Tables
    tables_with x = applied t b (command_of machine name x) (payload x)

    abbrev pub buffers_with : List ℕ → BuffersOne
    buffers_with x = filled_by t b (command_of machine name x) (payload x)

    -- it is accepted exactly if it is right and its rows are within the limits
    pub judged_iff : (x : List ℕ) → Going t b → (judged x ≡ 0) ↔ ((is_right (command_of machine name x) ≡ true) × Fitting t b (λ k. rows_from machine name k x))
    judged_iff x g =
        let c = command_of machine name x in
        (λ z. (decided_right t b (is_done x) c (payload x) (proper x) z, λ k. grown_within (grown t b c (payload x) k) z (g k)), λ h. decided_zero t b c (payload x) g h.0 h.1)

    module _ (x : List ℕ) (w : Whole x) (g : Going t b) (z : judged x ≡ 0) where
      reached : Reached t
      unfolding Reached
      reached k = (g k).reached

      -- then its rows stand behind those of before, and buffers keep their lengths
      pub view_with : (k : KindOne) → view_of k (tables_with x) (buffers_with x) ≡ view_of k t b ++ rows_from machine name k x
      view_with k = applied_view t b (payload x) reached (command_of machine name x) z k

      pub length_with : (k : KindOne) → length (buffer_of k (buffers_with x)) ≡ length (buffer_of k b)
      length_with k = grown_length (grown t b (command_of machine name x) (payload x) k) z

      pub going_with : Going (tables_with x) (buffers_with x)
      unfolding Reached
      going_with k =
          let c = command_of machine name x in
          grown_held (grown t b c (payload x) k) z (g k) (applied_reached t b c (payload x) (payload_stored name (line_in x) (body_in x) (whole_line x w) machine) reached k) (view_with k)

  -- a session in phase one with these tables
  abbrev pub going : Bool → Tables → Session
  going screen t = moved (opened_session machine name screen) One t

  -- phase two's buffers are lent beside and stay
  module _ (screen : Bool) (t : Tables) (b : BuffersOne) (later : two.BuffersTwo) where
    abbrev now : Session
    now = going screen t

    picked : (n : ℕ) (r : Received) → taking_number r.answer ≡ 0 → taking_number (pick (eqb n 0) r (refused_receipt n now b)).answer ≡ n
    picked n r q = cases (eqb n 0) (λ e. rw e (q ∙ sym (eqb-true n 0 e))) (λ e. rw e)

    -- what a text leaves, by whether it is accepted
    abbrev left : List ℕ → Bool → Received
    left x f = let c = command_of machine name x in record {
      answer = took (word_of c) (length x);
      session = moved now (phase_after c) (pick f (tables_with t b x) t);
      buffers = pick f (buffers_with t b x) b;
    }

    module _ (x : List ℕ) (w : Whole x) where
      read_as : received now x b ≡ received_stanza now b (line_in x) (body_in x) (length x)
      unfolding received
      read_as = subst (λ r. received_as r now x b ≡ received_stanza now b (line_read r x) (body_read r x) (length x)) (sym w.read) refl

      -- the number of the call is the decision
      pub number_received : (outcome now (buffers_of b later) (receive x)).number ≡ judged t b x
      unfolding received_stanza
      number_received =
          let n = first_of (judged t b x) 0 in
          ap (λ r. taking_number r.answer) read_as ∙ picked n (left x (eqb n 0)) refl ∙ first_same (judged t b x)

      module _ (z : judged t b x ≡ 0) where
        leaves : received now x b ≡ left x true
        unfolding received_stanza
        leaves =
            let n = first_of (judged t b x) 0 in
            read_as ∙ ap (λ f. pick f (left x f) (refused_receipt n now b)) (eq-eqb n 0 (first_same (judged t b x) ∙ z))

        pub tables_received : (outcome now (buffers_of b later) (receive x)).session.tables ≡ tables_with t b x
        tables_received = ap (λ r. r.session.tables) leaves

        pub buffers_received : (outcome now (buffers_of b later) (receive x)).buffers ≡ buffers_of (buffers_with t b x) later
        buffers_received = ap (λ r. buffers_of r.buffers later) leaves

        -- it stays in phase one if it is not done
        pub session_received : is_done x ≡ false → (outcome now (buffers_of b later) (receive x)).session ≡ moved now One (tables_with t b x)
        session_received d =
            let p : Proper false (command_of machine name x) = subst (λ f. Proper f (command_of machine name x)) d (proper x) in
            ap (λ r. r.session) leaves ∙ ap (λ q. moved now q (tables_with t b x)) (proper_phase (command_of machine name x) p)
