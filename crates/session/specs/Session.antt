-- A session of either end, and its opening (document 01, "Phase one": "Both ends open with a machine's and a plugin's name"; "Numbers given back": 18, then 17).
use Rattle.std.specs.Prelude.{ℕ, Bool, false, List}
use Rattle.bech32.specs.declared.human.Name.{Name}
use Rattle.refusal.specs.Verdict.{verdict_said}
use Rattle.stanza.specs.declared.places.Place.{Place}
use Rattle.stanza.specs.declared.places.Place.TheVariants.{Start}
use Rattle.session.specs.Opening.{name_of, settings}
use Rattle.session.specs.Tables.{Tables, tables_in, opened_slots, opened_header_slots, opened_tables}
use Rattle.session.specs.Phases.{phase_opened}
use Rattle.session.specs.declared.opening.Machine.{Machine}
use Rattle.session.specs.declared.phases.Phase.{Phase}
use Rattle.session.specs.declared.phases.Phase.TheVariants.{One, Closed}
use Rattle.session.specs.declared.sessions.Session.{Session as CodeSession}
use Rattle.session.specs.declared.sessions.Opening.{Opening as CodeOpening}

-- what an end keeps between calls. A plugin session has no screen
pub record Session : Type 0 where
  pub machine : Machine
  pub name : List ℕ
  pub screen : Bool
  pub phase : Phase
  pub tables : Tables

-- the code's session with the slots of six kinds and those of the header stanzas
abbrev pub session_of : CodeSession → List (List ℕ) → List (List ℕ) → Session
session_of s xs hs = record { machine = s.machine; name = name_of s.name; screen = s.screen; phase = s.phase; tables = tables_in s.tables xs hs }

-- what the code's session holds beside that: the name's value, where the reading of an unfinished stanza stands, and how many bytes are kept and wait
pub record Carried : Type 0 where
  pub name : Name
  pub reading : Place
  pub kept : ℕ
  pub awaited : ℕ

abbrev pub carried_by : CodeSession → Carried
carried_by s = record { name = s.name; reading = s.reading; kept = s.kept; awaited = s.awaited }

-- nothing is kept when a session is opened
abbrev pub carried_first : Name → Carried
carried_first name = record { name = name; reading = Start; kept = 0; awaited = 0 }

-- a session in another phase and with other tables
abbrev pub moved : Session → Phase → Tables → Session
moved s p t = record { machine = s.machine; name = s.name; screen = s.screen; phase = p; tables = t }

-- a session closed by a refusal: its tables stay
abbrev pub closed : Session → Session
closed s = moved s Closed s.tables

-- ---- opening

-- a session just opened, by its settings
abbrev pub opened_session : Machine → List ℕ → Bool → Session
opened_session machine name screen = record { machine = machine; name = name; screen = screen; phase = One; tables = opened_tables }

-- the number, 0 where nothing is refused, and the session: a refused opening hands back a closed one
pub record Opening : Type 0 where
  pub number : ℕ
  pub session : Session

-- No. 18, neither machine's name; then No. 17, a name that is none in lower case
abbrev pub opened : List ℕ → List ℕ → Bool → Opening
opened machine name screen =
    let given = settings machine name in
    record {
      number = given.number;
      session = record { machine = given.machine; name = given.name; screen = screen; phase = phase_opened given.number; tables = opened_tables };
    }

-- "A client session now opens without a screen" (document 02, No. 5), unless it is told otherwise
abbrev pub default_screen : Bool
default_screen = false

-- an opening that is not told
abbrev pub opened_untold : List ℕ → List ℕ → Opening
opened_untold machine name = opened machine name default_screen

-- the code's opening, with slots that are open
abbrev pub opening_said : CodeOpening → Opening
opening_said o = record { number = verdict_said o.verdict; session = session_of o.session opened_slots opened_header_slots }
