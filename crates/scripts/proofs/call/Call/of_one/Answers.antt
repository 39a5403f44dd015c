use Rattle.std.proofs.Common.{◌≡◌, codes, arith, rules}
use Rattle.std.proofs.lemmas.Slice.Eq.{text_from_reads}
use Rattle.scripts.proofs.Sayings.{no_call}
use Rattle.scripts.proofs.call.Call.of_one.Goals as goal

pub returns-in-ungroup : goal.returns-in-ungroup
returns-in-ungroup c =
    let word : c.args.word.now ≡ codes "ungroup" = text_from_reads _ _ (omega arith) (search rules) in (cc, tt)

pub returns-in-unpost : goal.returns-in-unpost
returns-in-unpost c =
    let word : c.args.word.now ≡ codes "unpost" = text_from_reads _ _ (omega arith) (search rules) in (cc, tt)

pub returns-in_default : goal.returns-in_default
returns-in_default c =
    no_call c.args.word.now c.args.field.now
    (search rules)
    (search rules)
    (search rules)
    (search rules)
    (search rules)
    (search rules)
    (search rules)
    (search rules)
    (search rules)
