-- Lists of statements that are the same at the front or at the back.
use Rattle.std.proofs.Common.{◌≡◌, ℕ, ◌-◌, List, [], ◌∷◌, ◌++◌, length, take, drop, sym, ap, ◌∙◌, arith}
use Rattle.std.proofs.lemmas.List.{take-append-drop, take_all, length-drop}
use Rattle.ifs_base.specs.Facts.{Facts}
use Rattle.ifs_base.specs.Effects.{followed}
use Rattle.ifs_base.specs.declared.ids.CommandId.{CommandId}
use Rattle.ifs_base.specs.declared.ids.StateId.{StateId}
use Rattle.ifs_parse.specs.Trees.{Done}
use Rattle.ifs_parse.specs.Views.{block_of, statement_then}
use Rattle.ifs_parse.specs.declared.block.Statement.{Statement}
use Rattle.ifs_policy.specs.Meaning.{reached}
use Rattle.ifs_policy.specs.declared.policy.Single.{Single}
use Rattle.ifs_compare.specs.inner.Middles.{AreMiddles}
use Rattle.ifs_solver.proofs.Effecting.{followed_twice, nothing_followed, statement_reaches}

-- Statements, and those after them.
joined : (facts : Facts) (xs ys : List (Statement Single CommandId StateId)) → reached facts (block_of (xs ++ ys)) ≡ followed (reached facts (block_of xs)) (reached facts (block_of ys))
joined facts [] ys = sym (nothing_followed (reached facts (block_of ys)))
joined facts (x ∷ xs) ys =
    let first = reached facts (statement_then x Done) in
    statement_reaches facts x (block_of (xs ++ ys))
    ∙ ap (followed first) (joined facts xs ys)
    ∙ followed_twice first (reached facts (block_of xs)) (reached facts (block_of ys))
    ∙ ap (λ e. followed e (reached facts (block_of ys))) (sym (statement_reaches facts x (block_of xs)))

split : (facts : Facts) (n : ℕ) (xs : List (Statement Single CommandId StateId)) → reached facts (block_of xs) ≡ followed (reached facts (block_of (take n xs))) (reached facts (block_of (drop n xs)))
split facts n xs = ap (λ zs. reached facts (block_of zs)) (sym (take-append-drop n xs)) ∙ joined facts (take n xs) (drop n xs)

pub front_same : (n : ℕ) (xs ys : List (Statement Single CommandId StateId)) → take n xs ≡ take n ys → AreMiddles xs ys (drop n xs) (drop n ys)
front_same n xs ys same facts e =
    split facts n xs
    ∙ ap (λ zs. followed (reached facts (block_of zs)) (reached facts (block_of (drop n xs)))) same
    ∙ ap (followed (reached facts (block_of (take n ys)))) e
    ∙ sym (split facts n ys)

whole_rest : (n : ℕ) (xs : List (Statement Single CommandId StateId)) → take (length xs - n) (drop n xs) ≡ drop n xs
whole_rest n xs = take_all (length xs - n) (drop n xs) (omega (arith, length-drop n xs))

pub front_rest : (n : ℕ) (xs ys : List (Statement Single CommandId StateId)) → take n xs ≡ take n ys → AreMiddles xs ys (take (length xs - n) (drop n xs)) (take (length ys - n) (drop n ys))
front_rest n xs ys same facts e =
    front_same n xs ys same facts (ap (λ zs. reached facts (block_of zs)) (sym (whole_rest n xs)) ∙ e ∙ ap (λ zs. reached facts (block_of zs)) (whole_rest n ys))

pub back_same : (n m : ℕ) (xs ys : List (Statement Single CommandId StateId)) → drop n xs ≡ drop m ys → AreMiddles xs ys (take n xs) (take m ys)
back_same n m xs ys same facts e =
    split facts n xs
    ∙ ap (λ zs. followed (reached facts (block_of (take n xs))) (reached facts (block_of zs))) same
    ∙ ap (λ r. followed r (reached facts (block_of (drop m ys)))) e
    ∙ sym (split facts m ys)

pub both_middles : (xs ys ps qs cs ds : List (Statement Single CommandId StateId)) → AreMiddles xs ys ps qs → AreMiddles ps qs cs ds → AreMiddles xs ys cs ds
both_middles xs ys ps qs cs ds h k facts e = h facts (k facts e)
