use Rattle.lines.proofs.queries.answer_ask.Goals as goal

pub returns-in-Query : goal.returns-in-Query
returns-in-Query c =
    rw c.in-Query.is c.answer_query.ensures

pub returns-in-Find : goal.returns-in-Find
returns-in-Find c =
    rw c.in-Find.is c.answer_find.ensures
