-- The table of faults: the number and the layer of every kind.
use Rattle.std.specs.Prelude.{ℕ}
use Rattle.faults.specs.declared.kind.Kind.{Kind}
use Rattle.faults.specs.declared.kind.Kind.TheVariants.{ByteNotAllowed, WordMissing, WordTooLong, NameTooLong, ByteNotAllowedInList, WordTooLongInList, ItemMissing, BracketUnmatched, BracketsTooDeep, GroupNameUnlawful, TextTooLong, GroupNotInBook, TooManyGroups, GroupLeadsToItself, NoSuchProcess, NoListInForce, PathUnlawful, NoRowFree, NoSpaceForRecord, WordsNotAsWritten, VerdictDiffers, NoSpaceForOutcome, LeaveNotOpenHere}

abbrev pub numbers : Kind → ℕ × ℕ
numbers ByteNotAllowed = (1, 1)
numbers WordMissing = (2, 1)
numbers WordTooLong = (3, 1)
numbers NameTooLong = (4, 1)
numbers ByteNotAllowedInList = (5, 2)
numbers WordTooLongInList = (3, 2)
numbers ItemMissing = (6, 2)
numbers BracketUnmatched = (7, 2)
numbers BracketsTooDeep = (8, 2)
numbers GroupNameUnlawful = (9, 2)
numbers TextTooLong = (10, 2)
numbers GroupNotInBook = (11, 3)
numbers TooManyGroups = (12, 3)
numbers GroupLeadsToItself = (13, 3)
numbers NoSuchProcess = (14, 4)
numbers NoListInForce = (15, 4)
numbers PathUnlawful = (16, 4)
numbers NoRowFree = (17, 4)
numbers NoSpaceForRecord = (18, 5)
numbers WordsNotAsWritten = (19, 5)
numbers VerdictDiffers = (20, 5)
numbers NoSpaceForOutcome = (21, 5)
numbers LeaveNotOpenHere = (22, 5)

abbrev pub number_of : Kind → ℕ
number_of k = (numbers k).0

abbrev pub layer_of : Kind → ℕ
layer_of k = (numbers k).1
