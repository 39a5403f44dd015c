-- What an opened list holds, as its table.
use Rattle.std.proofs.Common.{◌≡◌, ◌≤◌, length, take, sym, ap, ◌∙◌, arith}
use lib.ListN.{length-map}
use Rattle.std.proofs.lemmas.List.{take-map}
use Rattle.openings.specs.declared.opened.Opened.{Opened}
use Rattle.openings.specs.Opened.{names_of, texts_of}
use Rattle.openings.specs.KnownNames.{known}
use Rattle.openings.specs.Views.{text_in, texts_in}
use Rattle.openings.specs.Answers.{groups_of}
use Rattle.openings.proofs.Holding.{known_count}
use Rattle.openings.proofs.TableTexts.{length_names}
use Rattle.openings.proofs.Tabling.{pairs_names, pairs_held}

-- there are texts enough
enough : (o : Opened) → length (known o.names) ≤ length (texts_in o.texts)
enough o = omega (arith, known_count o.names, o.names.few, length-map o.texts text_in, o.room)

pub view_names : (o : Opened) → known o.names ≡ names_of (groups_of o)
view_names o = sym (pairs_names (known o.names) (texts_in o.texts) (enough o))

pub view_texts : (o : Opened) → texts_in (take o.names.count o.texts) ≡ texts_of (groups_of o)
view_texts o = ap (λ n. texts_in (take n o.texts)) (sym (known_count o.names)) ∙ sym (take-map text_in (length (known o.names)) o.texts) ∙ sym (pairs_held (known o.names) (texts_in o.texts) (enough o))

-- there is a name for each group
pub view_count : (o : Opened) → length (known o.names) ≡ length (groups_of o)
view_count o = ap length (view_names o) ∙ length_names (groups_of o)
