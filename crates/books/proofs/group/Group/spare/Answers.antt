use Rattle.std.proofs.Common.{[], ◌∷◌, refl, arith, Result, Ok, Err, MatchResult}
use Rattle.std.specs.Result.{IsOk}
use Rattle.names.specs.Words.{word_byte}
use Rattle.lists.specs.Bytes.{group_byte, IsGroupName}
use Rattle.books.proofs.group.Group.spare.Goals as goal

-- a dash is a group name
dash : IsGroupName (45 ∷ [])
unfolding group_byte word_byte
dash = record { some = omega arith; few = omega arith; bytes = (refl, tt) }

-- a result that is promised no error is `Ok`
ok_by : {T E : Type 0} (P : T → Type 0) (Q : E → Type 0) (r : Result T E) → MatchResult r P Q → ((e : E) → Q e → ⊥) → IsOk r
ok_by P Q (Ok x) h none = refl
ok_by P Q (Err e) h none = absurd (none e h)

pub unwrap-requires : goal.unwrap-requires
unwrap-requires c = ok_by _ _ c.new.result c.new.ensures (λ f h. h.unlawful dash)
