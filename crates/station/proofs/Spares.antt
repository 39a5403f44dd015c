-- The texts of rows that no station uses yet are lawful.
use Rattle.std.proofs.Common.{[], ◌∷◌, refl, arith, Result, Ok, Err, MatchResult}
use Rattle.std.specs.Result.{IsOk}
use Rattle.names.specs.Words.{word_byte, Word}
use Rattle.names.specs.Names.{word, single, program, only, LawfulName}
use Rattle.names.specs.Paths.{one, LawfulPath}
use Rattle.lists.specs.Trees.{empty}
use Rattle.lists.specs.Tokens.{ends}
use Rattle.lists.specs.Texts.{LawfulList}

dash : Word (45 ∷ [])
unfolding word_byte
dash = record { some = omega arith; few = omega arith; bytes = (refl, tt) }

pub dash_name : LawfulName (45 ∷ [])
dash_name = (word (45 ∷ []) ∷ [], record { form = only (program (single dash)); spelling = refl; short = omega arith; few = omega arith })

pub dash_path : LawfulPath (47 ∷ 45 ∷ [])
dash_path = record { form = one dash; short = omega arith }

pub empty_list : LawfulList []
empty_list = record { form = record { tree = empty; reads = ends 0; shallow = omega arith }; short = omega arith }

-- a result that is promised no error is `Ok`
pub ok_by : {T E : Type 0} (P : T → Type 0) (Q : E → Type 0) (r : Result T E) → MatchResult r P Q → ((e : E) → Q e → ⊥) → IsOk r
ok_by P Q (Ok x) h none = refl
ok_by P Q (Err e) h none = absurd (none e h)
