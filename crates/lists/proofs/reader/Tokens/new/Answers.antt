use Rattle.std.proofs.Common.{refl, arith, rules}
use Rattle.lists.proofs.Handing.{handed_spells, spells_handed}
use Rattle.lists.proofs.reader.Tokens.new.Goals as goal

pub returns : goal.returns
returns c =
    let text = c.args.text.now in
    record { place = search rules; hands = λ ss. (handed_spells text, λ s. spells_handed text s 0 (omega arith) refl) }
