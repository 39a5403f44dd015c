use Rattle.std.proofs.Common.{subst, sym, refl}
use Rattle.std.specs.Str.{IsUtf8}
use Rattle.scripts.specs.Numbers.{IsPadded}
use Rattle.scripts.proofs.Numbers.{not_padded, read_text, is_text}
use Rattle.scripts.proofs.number.decimal_number.Goals as goal

pub returns-then-is_padded : goal.returns-then-is_padded
returns-then-is_padded c = λ n small is. not_padded n small (subst IsPadded is (c.if-is_padded.ensures.0 refl))

pub returns-in_default : goal.returns-in_default
returns-in_default c = λ n small is. c.in_default.ensures.cases.0 (subst IsUtf8 (sym is) (is_text n small))

pub returns : goal.returns
returns c = read_text c.args.field.now c.in-Ok.text.now c.parse.result c.ok.result (λ padded. let no = c.if-is_padded.ensures.1 padded in cc) c.in-Ok.ensures.cases.0 c.parse.ensures.value.0 c.ok.ensures.value
