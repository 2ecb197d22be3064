use Rattle.text.proofs.Decimals.{digit_within, one_more_digit, product_fits, sum_fits}
use Rattle.text.proofs.decimal.decimal_value.Goals as goal

pub overflow_mul-value : goal.overflow_mul-value
overflow_mul-value c = product_fits c.args.word.now c.loop-digit.digit-index c.loop-digit.value c.requires c.loop-digit.invariant

pub overflow_sub-digit : goal.overflow_sub-digit
overflow_sub-digit c = (digit_within c.args.word.now c.loop-digit.digit-index c.requires c.loop-digit-test.true).0

pub overflow_add-value : goal.overflow_add-value
overflow_add-value c = sum_fits c.args.word.now c.loop-digit.digit-index c.loop-digit.value c.from.result c.requires c.loop-digit-test.true c.loop-digit.invariant c.from.ensures

pub loop-digit-preserved : goal.loop-digit-preserved
loop-digit-preserved c = one_more_digit c.args.word.now c.loop-digit.digit-index c.loop-digit.value c.from.result c.requires c.loop-digit-test.true c.loop-digit.invariant c.from.ensures
