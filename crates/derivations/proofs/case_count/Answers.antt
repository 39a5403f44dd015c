-- Each case passes the test, by computation.
use Rattle.std.proofs.Common.{◌≡◌, true, refl, rules}
use Rattle.std.specs.List.{list_all}
use Rattle.names.specs.Words.{word_byte}
use Rattle.lists.specs.Bytes.{group_byte, sign_of}
use Rattle.derivations.specs.Cases.{Holds, cases}
use Rattle.derivations.proofs.CaseTest.{test, holds}
use Rattle.lists.proofs.Elements.{every_passed}
use Rattle.derivations.proofs.case_count.Goals as goal

tested : list_all test cases ≡ true
unfolding word_byte group_byte sign_of
tested = refl

pub returns : goal.returns
returns c = record { count = search rules; hold = every_passed Holds test holds cases tested }
