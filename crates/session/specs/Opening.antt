-- Openings: the machine by its name, byte for byte, and the plugin's name (document 01, "Numbers given back": 18, "neither machine's name", then 17).
use Rattle.std.specs.Prelude.{ℕ, ◌≡◌, Bool, true, false, List, [], ◌∷◌, ◌⊎◌, ◌↔◌, length, take, Option, Some, None, Result, Ok, Err}
use Rattle.refusal.specs.Number.{number_of}
use Rattle.refusal.specs.Pick.{pick}
use Rattle.refusal.specs.Same.{same}
use Rattle.bech32.specs.Calls.{padded}
use Rattle.bech32.specs.Text.{is_name}
use Rattle.bech32.specs.declared.human.Name.{Name}
use Rattle.refusal.specs.declared.Refusal.{Refusal}
use Rattle.session.specs.declared.opening.Settings.{Settings as CodeSettings}
use Rattle.session.specs.declared.opening.Machine.{Machine}
use Rattle.session.specs.declared.opening.Machine.TheVariants.{RecipientV1, IdentityV1}
use Rattle.session.specs.declared.opening.Screen.{Screen}
use Rattle.session.specs.declared.opening.Screen.TheVariants.{Shown, Absent}

-- "recipient-v1"
abbrev pub recipient_v1 : List ℕ
recipient_v1 = 114 ∷ 101 ∷ 99 ∷ 105 ∷ 112 ∷ 105 ∷ 101 ∷ 110 ∷ 116 ∷ 45 ∷ 118 ∷ 49 ∷ []

-- "identity-v1"
abbrev pub identity_v1 : List ℕ
identity_v1 = 105 ∷ 100 ∷ 101 ∷ 110 ∷ 116 ∷ 105 ∷ 116 ∷ 121 ∷ 45 ∷ 118 ∷ 49 ∷ []

-- a machine, or none of that name
pub data MachineFound : Type 0 where
  named : Machine → MachineFound
  nameless : MachineFound

-- what the code's answer stands for
abbrev pub named_said : Option Machine → MachineFound
named_said (Some m) = named m
named_said None = nameless

-- the machine of a name
abbrev pub machine_named : List ℕ → MachineFound
machine_named t = pick (same t recipient_v1) (named RecipientV1) (pick (same t identity_v1) (named IdentityV1) nameless)

-- ---- what an opening is given

-- there is a screen
abbrev pub is_shown : Screen → Bool
is_shown Shown = true
is_shown Absent = false

-- the name that the code's value holds
abbrev pub name_of : Name → List ℕ
name_of n = take n.length n.bytes

-- and the value that holds a name: zeros stand behind its bytes
abbrev pub held : List ℕ → Name
held name = record { bytes = padded name; length = length name }

-- the number, 0 where nothing is refused; the machine and the name
pub record Settings : Type 0 where
  pub number : ℕ
  pub machine : Machine
  pub name : List ℕ

-- a refused opening names nothing
abbrev pub refused_settings : ℕ → Settings
refused_settings n = record { number = n; machine = RecipientV1; name = [] }

-- what the code's answer stands for
abbrev pub settings_said : Result CodeSettings Refusal → Settings
settings_said (Ok s) = record { number = 0; machine = s.machine; name = name_of s.name }
settings_said (Err r) = refused_settings (number_of r)

-- No. 17: the name is none in lower case
abbrev pub settings_named : Machine → List ℕ → Settings
settings_named machine name = pick (is_name name) (record { number = 0; machine = machine; name = name }) (refused_settings 17)

abbrev pub settings_of : MachineFound → List ℕ → Settings
settings_of (named machine) name = settings_named machine name
settings_of nameless name = refused_settings 18

-- No. 18 first
abbrev pub settings : List ℕ → List ℕ → Settings
settings machine name = settings_of (machine_named machine) name

-- ---- when an opening is refused

-- a machine's name
abbrev pub IsMachine : List ℕ → Type 0
IsMachine t = (t ≡ recipient_v1) ⊎ (t ≡ identity_v1)

-- the number of an opening: 18 exactly where the machine's name is neither; else 17 exactly where the plugin's name is none in lower case; else 0
pub record OpenedWith (machine name : List ℕ) (number : ℕ) : Type 0 where
  pub no_machine : (number ≡ 18) ↔ (IsMachine machine → ⊥)
  pub no_name : (number ≡ 17) ↔ (IsMachine machine × (is_name name ≡ false))
  pub accepted : (number ≡ 0) ↔ (IsMachine machine × (is_name name ≡ true))
