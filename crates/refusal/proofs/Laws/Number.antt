-- No refusal is 0.
use mathlib.Core.Path.{◌≡◌, refl}
use mathlib.Core.Bool.{false}
use lib.Dec.{eqb}
use Rattle.refusal.specs.Number.{number_of}
use Rattle.refusal.specs.declared.Refusal.{Refusal}
use Rattle.refusal.specs.declared.Refusal.TheVariants as the

pub number_not_zero : (r : Refusal) → eqb (number_of r) 0 ≡ false
number_not_zero the.NotStanza = refl
number_not_zero the.Unfinished = refl
number_not_zero the.TooLong = refl
number_not_zero the.BadCommand = refl
number_not_zero the.BadIndex = refl
number_not_zero the.NoSuchIndex = refl
number_not_zero the.FallingIndex = refl
number_not_zero the.NoSpace = refl
number_not_zero the.SecondKey = refl
number_not_zero the.TooManyStanzas = refl
number_not_zero the.WorkAndError = refl
number_not_zero the.UnfitResponse = refl
number_not_zero the.SessionOver = refl
number_not_zero the.OutOfTurn = refl
number_not_zero the.ShortOutput = refl
number_not_zero the.Malformed = refl
number_not_zero the.Unwritable = refl
number_not_zero the.NoSuchMachine = refl
number_not_zero the.HeldBack = refl
number_not_zero the.Repeated = refl
number_not_zero the.BadChecksum = refl
number_not_zero the.LeftoverBits = refl
