use Rattle.std.proofs.Common.{◌≡◌, ◌-◌, length, take, drop, ap, ◌∙◌, arith, rules, tests, length-drop}
use Rattle.std.proofs.lemmas.List.{take_all}
use Rattle.std.proofs.lemmas.Iterator.{YieldsList-from_slice}
use Rattle.std.proofs.lemmas.Iterator.Consumers.{count_from_yields_List}
use Rattle.std.proofs.lemmas.Iterator.Search.{YieldsList-from_take_while}
use Rattle.std.specs.List.{take_while}
use Rattle.names.specs.Words.{word_byte}
use Rattle.names.proofs.Walking.{word_end_is}
use Rattle.names.proofs.part.word_end.Goals as goal

pub returns : goal.returns
returns c =
    let text = c.args.text.now in
    let rest = drop c.args.from text in
    let counted = count_from_yields_List _ _ c.count.ensures.ran (YieldsList-from_take_while _ word_byte (YieldsList-from_slice (take (length text - c.args.from) rest) cc) c.take_while.ensures.closure c.take_while.ensures.done (λ x b q k. search (rules, tests))) in
    let whole : take (length text - c.args.from) rest ≡ rest = take_all _ rest (omega (arith, length-drop c.args.from text)) in
    word_end_is text c.args.from _ c.requires (counted ∙ ap (λ t. length (take_while word_byte t)) whole)
