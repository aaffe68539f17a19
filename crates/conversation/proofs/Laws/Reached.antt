-- Sessions that an opening and calls can reach, refused calls included.
use Prim.Native.Nat.{ℕ}
use mathlib.Core.Path.{◌≡◌, refl, sym, ap, subst, ◌∙◌}
use mathlib.Core.Bool.{Bool, true, false}
use mathlib.Core.List.{List, [], ◌∷◌}
use lib.Dec.{eqb}
use lib.ListN.{length}
use native.Mathlib.Omega.{arith}
use borrow.Author.Tests.{eqb-true, eqb-false}
use Rattle.refusal.specs.Pick.{pick}
use Rattle.refusal.proofs.Laws.Booleans.{cases}
use Rattle.stanza.specs.Reading.{read_first}
use Rattle.bech32.specs.Text.{is_name}
use Rattle.tables.specs.Tables.{Table, fits, appended, entered}
use Rattle.tables.proofs.Laws.Tables.{Filled}
use Rattle.phase_one.specs.Commands.{CommandOne, recipient, identity, key, header, done, other, bad, WordOne, line_sent}
use Rattle.session.specs.Opening.{MachineFound, named, nameless, machine_named, refused_settings, settings_of, settings}
use Rattle.phase_one.specs.PhaseOne as one
use Rattle.session.specs.Tables.{Tables, opened_tables}
use Rattle.phase_one.specs.PhaseOne.{command_in, payload_in}
use Rattle.session.specs.Phases.{closes, phase_opened}
use Rattle.phase_one.specs.Turns.{phase_after}
use Rattle.phase_one.specs.Views as one_kind
use Rattle.phase_one.specs.Views.{recipients, identities, keys, headers}
use Rattle.session.specs.declared.phases.Phase.{Phase}
use Rattle.session.specs.declared.phases.Phase.TheVariants.{One, Two, Closed}
use Rattle.session.specs.declared.opening.Machine.{Machine}
use Rattle.phase_one.proofs.Laws.Views.{Reached, opened_reached, applied_reached, payload_stored}
use Rattle.session.specs.Session.{Session, moved, closed, opened_session, opened}
use Rattle.conversation.specs.Kinds.{AnyKind, first, second, Buffers, table_of}
use Rattle.conversation.specs.CommandsTwo as two_command
use Rattle.conversation.specs.CommandsTwo.{CommandTwo}
use Rattle.conversation.specs.PhaseTwo as two
use Rattle.conversation.specs.PhaseTwo.{errors, stanzas, returned}
use Rattle.conversation.specs.TurnsTwo.{answered}
use Rattle.conversation.specs.ReceivingTwo.{phase_received}
use Rattle.conversation.specs.SendingTwo.{phase_sent}
use Rattle.conversation.specs.Calls.{Call, receive, send, receive_two, reply, send_two, respond, Outcome, outcome, session_after, after, line_read, body_read}
use Rattle.conversation.specs.Phases.{CallWith, after_each, JustDone, JustReceived}
use Rattle.conversation.proofs.Laws.Accepted.{Applied, AppliedTwo, command_at, payload_at, AcceptedBy, accepted}
use Rattle.conversation.proofs.Laws.Refusals.{refusal}
use Rattle.conversation.proofs.Laws.ViewsTwo.{ReachedTwo, opened_reached_two, applied_reached_two, payload_stored_two, one_leaves, two_leaves, KeptAs}

-- phase two's tables are as opened
abbrev pub LaterOpened : Tables → Type 0
LaterOpened t = (t.errors ≡ opened_tables.errors) × (t.stanzas ≡ opened_tables.stanzas) × (t.returned ≡ opened_tables.returned)

-- each table has the slots that it was opened with: 64, 64, 64 and 256; 384, 256 and 256
abbrev pub Wide : Tables → Type 0
Wide t = (k : AnyKind) → (table_of k t).width ≡ (table_of k opened_tables).width

-- each kind has its entries in the first slots, one behind the other, no payload empty but an error's, and the rest is as opened; each table has its slots; in
-- phase one, phase two's tables are as opened
pub record ReachedSession (s : Session) : Type 0 where
  pub tables : Reached s.tables
  pub later_tables : ReachedTwo s.tables
  pub wide : Wide s.tables
  pub later : s.phase ≡ One → LaterOpened s.tables

-- ---- openings

opened_wide : Wide opened_tables
opened_wide k = refl

-- a session whose tables are as opened is one
pub empty_reached : (s : Session) → s.tables ≡ opened_tables → ReachedSession s
empty_reached s e = record {
  tables = subst Reached (sym e) opened_reached;
  later_tables = subst ReachedTwo (sym e) opened_reached_two;
  wide = subst Wide (sym e) opened_wide;
  later = λ o. subst LaterOpened (sym e) (refl, refl, refl);
}

-- a session just opened is one
pub opened_session_lem : (machine : Machine) (name : List ℕ) (screen : Bool) → ReachedSession (opened_session machine name screen)
opened_session_lem machine name screen = empty_reached (opened_session machine name screen) refl

-- any opening, a refused one too, hands back tables as opened
pub opening_tables : (machine name : List ℕ) (screen : Bool) → (opened machine name screen).session.tables ≡ opened_tables
opening_tables machine name screen = refl

-- so what an opening hands back is one
pub opening_reached : (machine name : List ℕ) (screen : Bool) → ReachedSession (opened machine name screen).session
opening_reached machine name screen = empty_reached (opened machine name screen).session (opening_tables machine name screen)

-- an accepted opening: the machine of that name, a plugin's name, and a session just opened by them
pub record OpenedBy (machine name : List ℕ) (screen : Bool) : Type 0 where
  pub of : Machine
  pub machine_is_named : machine_named machine ≡ named of
  pub plugin_named : is_name name ≡ true
  pub session : (opened machine name screen).session ≡ opened_session of name screen

pub opening_accepted : (machine name : List ℕ) (screen : Bool) → (opened machine name screen).number ≡ 0 → OpenedBy machine name screen
opening_accepted machine name screen e = any (machine_named machine) refl
  where
    any : (m : MachineFound) → machine_named machine ≡ m → OpenedBy machine name screen
    any nameless q = let z : ◌≡◌ {A = ℕ} 18 0 = ap (λ x. (settings_of x name).number) (sym q) ∙ e in absurd (omega arith)
    any (named m) q =
        cases (is_name name)
        (λ f.
        let g : settings machine name ≡ record { number = 0; machine = m; name = name } = ap (λ x. settings_of x name) q ∙ ap (λ x. pick x (record { number = 0; machine = m; name = name }) (refused_settings 17)) f in
        record {
          of = m;
          machine_is_named = q;
          plugin_named = f;
          session = ap (λ x. record { machine = x.machine; name = x.name; screen = screen; phase = phase_opened x.number; tables = opened_tables }) g;
        })
        (λ f. let z : ◌≡◌ {A = ℕ} 17 0 = sym (ap (λ x. (settings_of x name).number) q ∙ ap (λ x. (pick x (record { number = 0; machine = m; name = name }) (refused_settings 17)).number) f) ∙ e in absurd (omega arith))

-- ---- what a command leaves so: of phase one

-- an entry adds no slot
entered_width : (t : Table) (n index mark capacity : ℕ) → (entered t n index mark capacity).width ≡ t.width
entered_width t n index mark capacity = either (fits t n capacity)
  where
    either : (f : Bool) → (pick f (appended t n index mark) t).width ≡ t.width
    either true = refl
    either false = refl

module _ (t : Tables) (b : one.BuffersOne) (p : List ℕ) where
  widths : (c : CommandOne) (k : one_kind.KindOne) → (one_kind.table_of k (one.applied t b c p)).width ≡ (one_kind.table_of k t).width
  widths (recipient m) recipients = entered_width t.recipients (length p) 0 m (length b.recipients)
  widths (recipient m) identities = refl
  widths (recipient m) keys = refl
  widths (recipient m) headers = refl
  widths (identity m) recipients = refl
  widths (identity m) identities = entered_width t.identities (length p) 0 m (length b.identities)
  widths (identity m) keys = refl
  widths (identity m) headers = refl
  widths key recipients = refl
  widths key identities = refl
  widths key keys = entered_width t.keys (length p) 0 0 (length b.keys)
  widths key headers = refl
  widths (header i m) recipients = refl
  widths (header i m) identities = refl
  widths (header i m) keys = refl
  widths (header i m) headers = entered_width t.headers (length p) i m (length b.headers)
  widths done k = refl
  widths other k = refl
  widths (bad n) k = refl

  applied_wide : (c : CommandOne) → Wide t → Wide (one.applied t b c p)
  applied_wide c w (first k) = widths c k ∙ w (first k)
  applied_wide c w (second k) = ap (λ x. x.width) (one_leaves t p b c k) ∙ w (second k)

  applied_later_tables : (c : CommandOne) → ReachedTwo t → ReachedTwo (one.applied t b c p)
  unfolding ReachedTwo
  applied_later_tables c r k = subst (KeptAs k) (sym (one_leaves t p b c k)) (r k)

  applied_later : (c : CommandOne) → LaterOpened t → LaterOpened (one.applied t b c p)
  applied_later c l = (one_leaves t p b c errors ∙ l.0, one_leaves t p b c stanzas ∙ l.1, one_leaves t p b c returned ∙ l.2)

-- .. of phase two
module _ (t : Tables) (b : two.BuffersTwo) (p : List ℕ) where
  widths_two : (c : CommandTwo) (k : two.KindTwo) → (two.table_of k (two.applied t b c p)).width ≡ (two.table_of k t).width
  widths_two (two_command.ask w) k = refl
  widths_two (two_command.stanza f) errors = refl
  widths_two (two_command.stanza f) stanzas = entered_width t.stanzas (length p) f 0 (length b.stanzas)
  widths_two (two_command.stanza f) returned = refl
  widths_two (two_command.key f) errors = refl
  widths_two (two_command.key f) stanzas = refl
  widths_two (two_command.key f) returned = entered_width t.returned (length p) f 0 (length b.returned)
  widths_two (two_command.error n) errors = entered_width t.errors (length p) (two.index_of n) (two.mark_of n) (length b.errors)
  widths_two (two_command.error n) stanzas = refl
  widths_two (two_command.error n) returned = refl
  widths_two two_command.done k = refl
  widths_two two_command.other k = refl
  widths_two (two_command.bad n) k = refl

  applied_wide_two : (c : CommandTwo) → Wide t → Wide (two.applied t b c p)
  applied_wide_two c w (first k) = ap (λ x. x.width) (two_leaves t p b c k) ∙ w (first k)
  applied_wide_two c w (second k) = widths_two c k ∙ w (second k)

  applied_tables_two : (c : CommandTwo) → Reached t → Reached (two.applied t b c p)
  unfolding Reached
  applied_tables_two c r k = subst Filled (sym (two_leaves t p b c k)) (r k)

-- ---- calls

-- no call of phase two leads back
pub received_on : (screen : Bool) (c : CommandTwo) → phase_received screen c ≡ One → ⊥
received_on true (two_command.ask w) e = let z : ◌≡◌ {A = ℕ} 0 1 = cc in omega arith
received_on false (two_command.ask w) e = let z : ◌≡◌ {A = ℕ} 0 1 = cc in omega arith
received_on screen (two_command.stanza f) e = let z : ◌≡◌ {A = ℕ} 0 1 = cc in omega arith
received_on screen (two_command.key f) e = let z : ◌≡◌ {A = ℕ} 0 1 = cc in omega arith
received_on screen (two_command.error n) e = let z : ◌≡◌ {A = ℕ} 0 1 = cc in omega arith
received_on screen two_command.done e = let z : ◌≡◌ {A = ℕ} 0 1 = cc in omega arith
received_on screen two_command.other e = let z : ◌≡◌ {A = ℕ} 0 1 = cc in omega arith
received_on screen (two_command.bad n) e = let z : ◌≡◌ {A = ℕ} 0 1 = cc in omega arith

sent_on : (c : CommandTwo) → phase_sent c ≡ One → ⊥
sent_on (two_command.ask w) e = let z : ◌≡◌ {A = ℕ} 0 1 = cc in omega arith
sent_on (two_command.stanza f) e = let z : ◌≡◌ {A = ℕ} 0 1 = cc in omega arith
sent_on (two_command.key f) e = let z : ◌≡◌ {A = ℕ} 0 1 = cc in omega arith
sent_on (two_command.error n) e = let z : ◌≡◌ {A = ℕ} 0 1 = cc in omega arith
sent_on two_command.done e = let z : ◌≡◌ {A = ℕ} 0 1 = cc in omega arith
sent_on two_command.other e = let z : ◌≡◌ {A = ℕ} 0 1 = cc in omega arith
sent_on (two_command.bad n) e = let z : ◌≡◌ {A = ℕ} 0 1 = cc in omega arith

module _ (s : Session) (r : ReachedSession s) where
  -- another phase that is not the first
  moved_reached : (p : Phase) → (p ≡ One → ⊥) → ReachedSession (moved s p s.tables)
  moved_reached p h = record { tables = r.tables; later_tables = r.later_tables; wide = r.wide; later = λ e. absurd (h e) }

  closed_reached : (f : Bool) → ReachedSession (pick f (closed s) s)
  closed_reached true = moved_reached Closed (λ e. let z : ◌≡◌ {A = ℕ} 0 1 = cc in omega arith)
  closed_reached false = r

  left_reached : (c : Call) (n : ℕ) → ReachedSession (session_after c n s)
  left_reached (receive text) n = closed_reached (closes n)
  left_reached (send word arguments body out) n = r
  left_reached (receive_two text out) n = closed_reached (closes n)
  left_reached (reply x body out) n = r
  left_reached (send_two word arguments body out) n = r
  left_reached (respond text out) n = closed_reached (closes n)

  -- an accepted command of phase one
  applied_so : (b b' : one.BuffersOne) (line body : List ℕ) (s' : Session) → Applied s b line body s' b' → ReachedSession s'
  applied_so b b' line body s' a =
      let c = command_in s.machine s.name line body in
      let p = payload_in s.machine s.name line body in
      subst ReachedSession (sym a.session) record {
        tables = applied_reached s.tables b c p (payload_stored s.name line body a.argued s.machine) r.tables;
        later_tables = applied_later_tables s.tables b p c r.later_tables;
        wide = applied_wide s.tables b p c r.wide;
        later = λ e. applied_later s.tables b p c (r.later a.turn);
      }

  -- .. of phase two
  applied_two_so : (own : Bool) (b : Buffers) (line body : List ℕ) (phase : Phase) (text out : List ℕ) (o : Outcome) → AppliedTwo own s b line body phase text out o → (phase ≡ One → ⊥) → ReachedSession o.session
  applied_two_so own b line body phase text out o a h =
      let c = command_at s line body in
      let p = payload_at s line body in
      subst ReachedSession (sym a.session) record {
        tables = applied_tables_two s.tables b.second p c r.tables;
        later_tables = applied_reached_two s.tables b.second c p (payload_stored_two line body s.machine) r.later_tables;
        wide = applied_wide_two s.tables b.second p c r.wide;
        later = λ e. absurd (h e);
      }

  -- .. an answer
  answered_so : (s' : Session) → s' ≡ answered s → ReachedSession s'
  answered_so s' e = subst ReachedSession (sym e) (moved_reached Two (λ q. let z : ◌≡◌ {A = ℕ} 0 1 = cc in omega arith))

  accepted_reached : (b : Buffers) (c : Call) → AcceptedBy s b c → ReachedSession (outcome s b c).session
  accepted_reached b (receive text) a = applied_so b.first (outcome s b (receive text)).buffers.first _ _ _ a.applied
  accepted_reached b (send word arguments body out) a = applied_so b.first (outcome s b (send word arguments body out)).buffers.first _ _ _ a.applied
  accepted_reached b (receive_two text out) a = applied_two_so false b _ _ _ _ _ _ a (received_on s.screen (command_at s (line_read (read_first text) text) (body_read (read_first text) text)))
  accepted_reached b (reply x body out) a = answered_so _ a.session
  accepted_reached b (send_two word arguments body out) a = applied_two_so true b _ _ _ _ _ _ a (sent_on (command_at s (two_command.line_sent word arguments) body))
  accepted_reached b (respond text out) a = answered_so _ a.1.session

-- each call keeps a session so, accepted or refused
pub call_reached : (s : Session) (b : Buffers) (c : Call) → ReachedSession s → ReachedSession (outcome s b c).session
call_reached s b c r =
    cases (eqb (outcome s b c).number 0)
    (λ f. accepted_reached s r b c (accepted s b c (eqb-true (outcome s b c).number 0 f)))
    (λ f. subst ReachedSession (sym (refusal s b c (eqb-false (outcome s b c).number 0 f)).session) (left_reached s r c (outcome s b c).number))

-- and so does every list of calls
pub after_reached : (s : Session) (b : Buffers) (cs : List Call) → ReachedSession s → ReachedSession (after s b cs).session
unfolding after
after_reached s b [] r = r
after_reached s b (c ∷ cs) r = after_reached (outcome s b c).session (outcome s b c).buffers cs (call_reached s b c r)

-- also where each call is lent its own buffers
pub each_reached : (s : Session) (cs : List CallWith) → ReachedSession s → ReachedSession (after_each s cs)
unfolding after_each
each_reached s [] r = r
each_reached s (c ∷ cs) r = each_reached (outcome s c.buffers c.call).session cs (call_reached s c.buffers c.call r)

-- ---- a session that has just sent or received done

-- it is in phase two, and has nothing of it yet
pub record JustReached (s : Session) : Type 0 where
  pub turn : s.phase ≡ Two
  pub later_opened : LaterOpened s.tables
  pub reached : ReachedSession s

-- done of phase one leads to it, received or sent
just_applied : (s₀ s : Session) (b b' : one.BuffersOne) (line body : List ℕ) → ReachedSession s₀ → Applied s₀ b line body s b' → command_in s.machine s.name line body ≡ done → ReachedSession s → JustReached s
just_applied s₀ s b b' line body r a d reached =
    let c = command_in s₀.machine s₀.name line body in
    let p = payload_in s₀.machine s₀.name line body in
    let d₀ : c ≡ done = sym (ap (λ x. command_in x.machine x.name line body) a.session) ∙ d in
    record {
      turn = ap (λ x. x.phase) a.session ∙ ap phase_after d₀;
      later_opened = subst (λ x. LaterOpened x.tables) (sym a.session) (applied_later s₀.tables b p c (r.later a.turn));
      reached = reached;
    }

just_from : (s₀ s : Session) (b : Buffers) (word : WordOne) (arguments body out : List ℕ) → ReachedSession s₀ →
    command_in s.machine s.name (line_sent word arguments) body ≡ done → (outcome s₀ b (send word arguments body out)).number ≡ 0 → s ≡ (outcome s₀ b (send word arguments body out)).session → JustReached s
just_from s₀ s b word arguments body out r d z e =
    let o = outcome s₀ b (send word arguments body out) in
    let line = line_sent word arguments in
    subst JustReached (sym e)
    (just_applied s₀ o.session b.first o.buffers.first line body r (accepted s₀ b (send word arguments body out) z).applied (sym (ap (λ x. command_in x.machine x.name line body) e) ∙ d) (call_reached s₀ b (send word arguments body out) r))

-- a plugin session that has just received done
pub just_received : (s : Session) (b : Buffers) (text : List ℕ) → ReachedSession s → (outcome s b (receive text)).number ≡ 0 →
    command_in s.machine s.name (line_read (read_first text) text) (body_read (read_first text) text) ≡ done → JustReached (outcome s b (receive text)).session
just_received s b text r z d =
    let o = outcome s b (receive text) in
    let line = line_read (read_first text) text in
    let body = body_read (read_first text) text in
    let a = (accepted s b (receive text) z).applied in
    just_applied s o.session b.first o.buffers.first line body r a (ap (λ x. command_in x.machine x.name line body) a.session ∙ d) (call_reached s b (receive text) r)

pub just_done : (s : Session) → JustDone s → JustReached s
just_done s j =
    just_from (after_each (opened j.machine j.name j.screen).session j.before) s j.buffers j.word j.arguments j.body j.out
    (each_reached (opened j.machine j.name j.screen).session j.before (opening_reached j.machine j.name j.screen)) j.is_done_command j.accepted j.reached

pub just_received_done : (s : Session) → JustReceived s → JustReached s
just_received_done s j =
    let s₀ = after_each (opened j.machine j.name false).session j.before in
    let o = outcome s₀ j.buffers (receive j.text) in
    let line = line_read (read_first j.text) j.text in
    let body = body_read (read_first j.text) j.text in
    let a = (accepted s₀ j.buffers (receive j.text) j.accepted).applied in
    subst JustReached (sym j.reached)
    (just_received s₀ j.buffers j.text (each_reached (opened j.machine j.name false).session j.before (opening_reached j.machine j.name false)) j.accepted
    (ap (λ x. command_in x.machine x.name line body) (sym a.session) ∙ ap (λ x. command_in x.machine x.name line body) (sym j.reached) ∙ j.is_done_command))
