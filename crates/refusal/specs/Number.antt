-- Document 01, "Numbers given back", and document 02: the number of each fault.
use Rattle.std.specs.Prelude.{ℕ}
use Rattle.refusal.specs.declared.Refusal.{Refusal}
use Rattle.refusal.specs.declared.Refusal.TheVariants.{NotStanza, Unfinished, TooLong, BadCommand, BadIndex, NoSuchIndex, FallingIndex, NoSpace, SecondKey, TooManyStanzas, WorkAndError, UnfitResponse, SessionOver, OutOfTurn, ShortOutput, Malformed, Unwritable, NoSuchMachine, HeldBack, Repeated, BadChecksum, LeftoverBits}

-- the first column of the paper's table, and the requests' numbers
abbrev pub number_of : Refusal → ℕ
number_of NotStanza = 1
number_of Unfinished = 2
number_of TooLong = 3
number_of BadCommand = 4
number_of BadIndex = 5
number_of NoSuchIndex = 6
number_of FallingIndex = 7
number_of NoSpace = 8
number_of SecondKey = 9
number_of TooManyStanzas = 10
number_of WorkAndError = 11
number_of UnfitResponse = 12
number_of SessionOver = 13
number_of OutOfTurn = 14
number_of ShortOutput = 15
number_of Malformed = 16
number_of Unwritable = 17
number_of NoSuchMachine = 18
number_of HeldBack = 19
number_of Repeated = 20
number_of BadChecksum = 21
number_of LeftoverBits = 22
