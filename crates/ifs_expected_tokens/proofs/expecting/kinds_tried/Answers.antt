use Rattle.std.proofs.Common.{◌⊎◌, ◌∙◌, inl, refl, subst, sym}
use Rattle.std.specs.List.{AllByRecursion}
use Rattle.ifs_expected_tokens.specs.Expected.{HasKind}
use Rattle.ifs_expected_tokens.proofs.KindLists.{Can, among, empty, listed_more, none_left, tried, tried_not, with_one, without_one}
use Rattle.ifs_expected_tokens.proofs.expecting.kinds_tried.Goals as goal

pub kinds-init : goal.kinds-init
kinds-init c = record { same = refl; listed = subst (AllByRecursion (Can c.args.number c.args.front.now.items)) (sym c.new-kinds.ensures.items) tt; all = λ k can. inl (among k) }

pub kinds-preserved-in_ok-push : goal.kinds-preserved-in_ok-push
kinds-preserved-in_ok-push c =
    let n = c.args.number in
    let front = c.args.front.now.items in
    let kind = c.in-Some.kind.now in
    let here = tried n front c.kinds.front.items kind c.in_ok-what.what c.kinds.invariant.same c.in_ok-what.ensures (c.in_ok-can_follow.ensures.can c.if-branch.true) in
    record {
      same = c.in_ok-can_follow.ensures.same ∙ c.kinds.invariant.same;
      listed = subst (AllByRecursion (Can n front)) (sym c.in_ok-push.ensures.items) (listed_more n front c.kinds.kinds.items kind c.kinds.invariant.listed here);
      all = λ k can. subst (λ xs. HasKind k c.in-Some.rest.now ⊎ HasKind k xs) (sym c.in_ok-push.ensures.items)
          (with_one kind c.in-Some.rest.now c.kinds.kinds.items k (subst (λ xs. HasKind k xs ⊎ HasKind k c.kinds.kinds.items) c.in-Some.ensures.cases.0 (c.kinds.invariant.all k can)));
    }

pub kinds-preserved : goal.kinds-preserved
kinds-preserved c =
    let n = c.args.number in
    let front = c.args.front.now.items in
    let kind = c.in-Some.kind.now in
    let none = tried_not n front c.kinds.front.items kind c.in_ok-what.what c.kinds.invariant.same c.in_ok-what.ensures (c.in_ok-can_follow.ensures.cannot c.if-branch.false) in
    record {
      same = c.in_ok-can_follow.ensures.same ∙ c.kinds.invariant.same;
      listed = c.kinds.invariant.listed;
      all = λ k can. without_one n front kind c.in-Some.rest.now c.kinds.kinds.items none k can
          (subst (λ xs. HasKind k xs ⊎ HasKind k c.kinds.kinds.items) c.in-Some.ensures.cases.0 (c.kinds.invariant.all k can));
    }

pub returns-clause-expected : goal.returns-clause-expected
returns-clause-expected c = record {
  listed = c.kinds.invariant.listed;
  all = λ k can. none_left k c.kinds.kinds.items (subst (λ xs. HasKind k xs ⊎ HasKind k c.kinds.kinds.items) (empty c.kinds.left.now c.in_default.ensures.cases) (c.kinds.invariant.all k can));
}
