-- The names of groups and the texts of lists, as bytes.
use Rattle.std.specs.Prelude.{ℕ, List, map}
use Rattle.texts.specs.Shown.{shown}
use Rattle.lists.specs.declared.group_name.GroupName.{GroupName}
use Rattle.lists.specs.declared.list.AccessList.{AccessList}
use Rattle.openings.specs.Opening.{Name}

abbrev pub name_of : GroupName → Name
name_of n = shown n.text

abbrev pub names_in : List GroupName → List Name
names_in ns = map name_of ns

abbrev pub text_in : AccessList → List ℕ
text_in l = shown l.text

abbrev pub texts_in : List AccessList → List (List ℕ)
texts_in ls = map text_in ls
