-- An identity file's commands as a plugin session receives them (document 02, No. 8: "Reading that transcript back, with room enough, gives exactly those identities").
use Rattle.std.specs.Prelude.{◌≡◌, false, List, [], map, ℕ}
use Rattle.bech32.specs.Text.{identity, parse}
use Rattle.bech32.specs.Calls.{mark_of}
use Rattle.tables.specs.Tables.{Row}
use Rattle.phase_one.specs.Views.{identities}
use Rattle.session.specs.declared.opening.Machine.{Machine}
use Rattle.session.specs.declared.phases.Phase.TheVariants.{Two}
use Rattle.session.specs.Session.{opened_session}
use Rattle.conversation.specs.Calls.{State, state_of}
use Rattle.conversation.specs.Kinds.{AnyKind, first, Buffers, view_of}
use Rattle.chunks.specs.Taking.{plugin}
use Rattle.chunks.specs.Uncut.{Piece}
use Rattle.chunks.specs.Orders.{AllTaken, state_behind}

-- a plugin session just opened, with its buffers
abbrev pub just_opened : Machine → List ℕ → Buffers → State
just_opened machine name b = state_of (opened_session machine name false) b

-- the entry of an identity: its text byte for byte, and the mark that it has for the plugin's name
abbrev pub entry_of : List ℕ → List ℕ → Row
entry_of name l = record { payload = l; index = 0; mark = mark_of (parse identity l) name }

-- the session accepts every chunk and is then in phase two; the entries of its identity table are these texts, in order, and all other tables are empty
pub record ReadsBack (machine : Machine) (name : List ℕ) (b : Buffers) (cs : List Piece) (ls : List (List ℕ)) : Type 0 where
  pub accepted : AllTaken plugin (just_opened machine name b) cs
  pub phase : (state_behind plugin (just_opened machine name b) cs).session.phase ≡ Two
  pub entries : (let z = state_behind plugin (just_opened machine name b) cs in view_of (first identities) z.session.tables z.buffers ≡ map (entry_of name) ls)
  pub others : (k : AnyKind) → (k ≡ first identities → ⊥) → (let z = state_behind plugin (just_opened machine name b) cs in view_of k z.session.tables z.buffers ≡ [])
