-- What an opening holds: the names of the groups that it knows.
use Rattle.std.specs.Prelude.{List, take}
use Rattle.openings.specs.declared.known.KnownGroups.{KnownGroups}
use Rattle.openings.specs.Opening.{Name}
use Rattle.openings.specs.Views.{names_in}

-- the groups that are known, in the order of meeting
abbrev pub known : KnownGroups → List Name
known k = names_in (take k.count k.names)
