use Rattle.name_parts.proofs.Holding.{mere_partial}
use Rattle.name_parts.proofs.name_parts.NameParts.partial_names.Goals as goal

pub returns : goal.returns
returns c = let self = c.args.self.now in mere_partial self.text.now self.partial self.spanned
