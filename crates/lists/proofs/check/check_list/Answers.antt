use Rattle.std.proofs.Common.{◌≡◌, true, sym, ◌∙◌, subst, arith, rules, tests}
use Rattle.std.specs.List.{list_all}
use Rattle.std.proofs.lemmas.Iterator.{YieldsList-from_slice}
use Rattle.std.proofs.lemmas.Iterator.Search.{all_from_yields_List}
use Rattle.lists.specs.Lexemes.{is_blank}
use Rattle.lists.specs.Machine.{within, ListBegins, ListRead}
use Rattle.lists.proofs.Course.{leads_none}
use Rattle.lists.proofs.Whole.{marked_by, blank_list, read_list}
use Rattle.lists.proofs.check.check_list.Goals as goal
use Rattle.lists.proofs.check.check_list.Goals.{After-all}

all_blank : (c : After-all) → c.all.result ≡ list_all is_blank c.args.text.now
all_blank c = all_from_yields_List is_blank _ _ c.all.result c.all.ensures.ran (YieldsList-from_slice c.args.text.now cc) (λ x b q k. search (rules, tests))

pub returns-then-all : goal.returns-then-all
returns-then-all c = blank_list c.args.text.now (sym (all_blank (goal.at.returns-then-all c).After-all) ∙ c.if-all.true)

pub read_list-requires : goal.read_list-requires
read_list-requires c =
    let text = c.args.text.now in
    let (same, front) = c.new.ensures.place in
    let begins : ListBegins text 0 0 = record { marked = marked_by text (sym (all_blank (goal.at.read_list-requires c).After-all) ∙ c.if-all.false); shallow = omega arith; leads = leads_none text 0 (within 0 true) (omega arith) } in
    subst (λ u. ListBegins u c.new.result.at 0) (sym same) (subst (λ k. ListBegins text k 0) (sym front) begins)

pub returns : goal.returns
returns c =
    let text = c.args.text.now in
    let (same, front) = c.new.ensures.place in
    let closed = c.in_ok-read_list.field-0 in
    let end = c.read_list.new.tokens.at in
    read_list text closed end (subst (λ k. ListRead text k 0 closed end) front (subst (λ u. ListRead u c.new.result.at 0 closed end) same c.in_ok-read_list.ensures.read))
