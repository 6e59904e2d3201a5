-- What is told of a basket: its values, or zeros beside a refusal.
use Rattle.calstwid_exports.proofs.Zeros.{all_zeros}
use Rattle.calstwid_exports.proofs.reports.BasketReportFromResultBasketRefusal.from.Goals as goal

pub returns : goal.returns
returns c =
    let d = c.default.ensures in
    rw (c.told-answer.ensures.number, c.told-answer.ensures.values, all_zeros _ d.0 d.1.0 d.1.1.0 d.1.1.1.0 d.1.1.1.1.0 d.1.1.1.1.1.0 d.1.1.1.1.1.1)
