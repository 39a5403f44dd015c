-- Worked cases: which names a list derives by its groups, and which it does not.
use Rattle.std.specs.Prelude.{ℕ, Bool, true, false, List, [], ◌∷◌, codes, MatchBool}
use Prim.Native.String.{String}
use Rattle.std.specs.List.{AllByRecursion}
use Rattle.names.specs.Names.{LawfulName}
use Rattle.names.specs.Rules.{exact}
use Rattle.lists.specs.Texts.{LawfulList}
use Rattle.books.specs.Tables.{Table}
use Rattle.derivations.specs.Derives.{ListDerives}

-- a list with its groups, a name, and whether the list derives the name
pub record Case : Type 0 where
  pub list : List ℕ
  pub groups : Table
  pub name : List ℕ
  pub derived : Bool

-- The list derives the name, or it does not. All texts are lawful, so that no answer comes from an unlawful one.
pub record Holds (c : Case) : Type 0 where
  pub lawful_list : LawfulList c.list
  pub lawful_groups : AllByRecursion (λ e. LawfulList e.text) c.groups
  pub lawful_name : LawfulName c.name
  pub judged : MatchBool c.derived (ListDerives exact c.groups c.list c.name) (ListDerives exact c.groups c.list c.name → ⊥)

-- a case in one row
abbrev pub row : String → Table → String → Bool → Case
row list groups name derived = record { list = codes list; groups = groups; name = codes name; derived = derived }

-- a table of one group: g is `a|b`
abbrev pub letters : Table
letters = record { name = codes "g"; text = codes "a|b" } ∷ []

-- a table of one group without items
abbrev pub itemless : Table
itemless = record { name = codes "g"; text = codes " " } ∷ []

abbrev pub cases : List Case
cases =
    row "!" [] "a.b" true
    ∷ row "!" [] "a@b" false
    ∷ row "!.x" [] "a.b.x" true
    ∷ row "(!+)*!" [] "a+b+c" true
    ∷ row "log in" [] "login" false
    ∷ row "(a*)*" [] "a" true
    ∷ row "x.{g}" letters "x.b" true
    ∷ row "x.{g}" letters "b" false
    ∷ row "(!@ted +!@read) | (login@ted +!@write)" [] "login@ted+app@read" true
    ∷ row "(!@ted +!@read) | (login@ted +!@write)" [] "sshd@ted+app@write" false
    ∷ row "(!@ted +!@read) | (login@ted +!@write)" [] "login@ted+app@beta@read" false
    ∷ row "a" [] "b" false
    ∷ row "a|b" [] "b" true
    ∷ row "a b*" [] "a" true
    ∷ row "x.{g}" letters "x.c" false
    ∷ row "a {g}" itemless "a" false
    ∷ row "a {g}*" itemless "a" true
    ∷ row " " [] "a" false
    ∷ []
