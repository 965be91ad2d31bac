use Rattle.answers.proofs.answer.+put_decimal.Given as goal

-- the digits that may still be written
abbrev pub decreases-put_decimal : goal.decreases-put_decimal
decreases-put_decimal l = l.k
