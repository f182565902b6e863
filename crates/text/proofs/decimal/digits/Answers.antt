use Rattle.text.proofs.Decimals.{count-reached}
use Rattle.text.proofs.decimal.digits.Goals as goal

pub returns : goal.returns
returns c =
    let p = c.checked_ilog10.ensures in
    count-reached c.args.number _ c.checked_ilog10.result p.none p.power_le p.next_power_gt c.unwrap_or.ensures
