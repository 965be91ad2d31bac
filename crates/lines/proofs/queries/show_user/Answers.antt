use mathlib.Core.Path.{refl}
use native.Mathlib.Omega.{arith}
use lib.ListN.{drop}
use Rattle.rights.specs.Table.{count}
use Rattle.rights.proofs.TableLaws.{table_few}
use Rattle.rights.proofs.OwnNames.{own_part}
use Rattle.lines.proofs.StateLaws.{store_held}
use Rattle.lines.proofs.UserViewLaws.{asked_cover, asked-shown, asked-held, user_some, user_asks, user_own}
use Rattle.lines.proofs.queries.show_user.Goals as goal

pub slice_bounds-policy-count : goal.slice_bounds-policy-count
slice_bounds-policy-count c = omega (arith, (store_held _ _ c.requires.0).size)

pub slice_bounds-policy-start : goal.slice_bounds-policy-start
slice_bounds-policy-start c = omega (arith, (store_held _ _ c.requires.0).size)

pub bounds-state-1 : goal.bounds-state-1
bounds-state-1 c = omega (arith, (store_held _ _ c.requires.0).size)

pub overflow_sub-user : goal.overflow_sub-user
overflow_sub-user c = let g = c.requires in omega (arith, c.from-user.ensures, user_some _ _ g.0 g.1.0)

pub roles_of-roles-requires : goal.roles_of-roles-requires
roles_of-roles-requires c =
    let user = user_asks c.args.state.now _ c.from-user.ensures _ c.requires.0 c.requires.1.0 in
    (user.policy, user.subject)

pub own_subjects-own-requires : goal.own_subjects-own-requires
own_subjects-own-requires c =
    ((user_asks c.args.state.now _ c.from-user.ensures _ c.requires.0 c.requires.1.0).policy, c.roles_of-roles.ensures, refl)

pub asked_on-requires : goal.asked_on-requires
asked_on-requires c =
    let g = c.requires in
    let table = (store_held _ _ g.0).table in (
      (user_asks c.args.state.now _ c.from-user.ensures _ g.0 g.1.0).policy,
      c.roles_of-roles.ensures,
      own_part c.own_subjects-own.ensures.0,
      table,
      omega (arith, table_few _ table, g.3),
    )

pub day_in-requires : goal.day_in-requires
day_in-requires c =
    omega (arith, (store_held _ _ c.requires.0).size)

pub show-nodes-requires : goal.show-nodes-requires
show-nodes-requires c =
    let g = c.requires in
    let a = c.args in
    let h = store_held _ _ g.0 in
    (h.table, asked_cover a.state.now a.table.now _ (drop (count a.table.now) a.rights.now) _ a.asked c.from-user.ensures c.asked_on.ensures, omega (arith, table_few _ h.table, g.4))

pub returns : goal.returns
returns c =
    let r = c.show-nodes.ensures in
    let a = c.args in
    let g = c.requires in
    let more = drop (count a.table.now) a.rights.now in
    let user = c.from-user.ensures in
    let e = asked-shown a.state.now a.table.now _ more _ a.asked user c.asked_on.ensures g.2 _ c.day_in.ensures in (
      user_own a.state.now _ user _ _ c.own_subjects-own.ensures.0,
      rw e at r.0,
      rw e at r.1,
      asked-held a.state.now a.table.now _ more _ a.asked user c.asked_on.ensures,
    )
