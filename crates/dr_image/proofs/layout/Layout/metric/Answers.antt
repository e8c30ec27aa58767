use Rattle.std.proofs.Common.{◌≡◌, ◌∙◌, ap, map, arith, ◌*◌, ◌≤◌, ◌<◌, length}
use Rattle.std.proofs.Math.Nat.{mul-le-mul_left}
use Rattle.dr_image.specs.Words.{long}
use Rattle.dr_image.specs.Layout.{read_table}
use Rattle.dr_image.proofs.LayoutLemmas.{length-metrics_in, seen_metric, metric_within, counted}
use Rattle.dr_image.proofs.layout.Layout.metric.Goals as goal

pub overflow_mul-rows-3 : goal.overflow_mul-rows-3
overflow_mul-rows-3 c =
    let l = c.args.self.now in
    let few = (counted l.header l.laid.counts).few_metrics in
    let is : l.header.metrics ≡ length (read_table l.bytes.now).metrics = length-metrics_in l.bytes.now l.header l.head in
    let below : c.args.m ≤ 64 = omega (arith, c.requires) in
    let le = mul-le-mul_left (8 * l.header.rows) below in
    omega arith

pub overflow_add-rows-2 : goal.overflow_add-rows-2
overflow_add-rows-2 c =
    let l = c.args.self.now in
    let few = (counted l.header l.laid.counts).few_metrics in
    let is : l.header.metrics ≡ length (read_table l.bytes.now).metrics = length-metrics_in l.bytes.now l.header l.head in
    let below : c.args.m ≤ 64 = omega (arith, c.requires) in
    let le = mul-le-mul_left (8 * l.header.rows) below in
    omega arith

pub cells8-requires : goal.cells8-requires
cells8-requires c =
    let l = c.args.self.now in
    let is : l.header.metrics ≡ length (read_table l.bytes.now).metrics = length-metrics_in l.bytes.now l.header l.head in
    let below : c.args.m < l.header.metrics = omega (arith, c.requires) in
    let room = l.laid.room in
    let le = metric_within (8 * l.header.rows) c.args.m l.header.metrics below in
    omega arith

pub returns-clause-value : goal.returns-clause-value
returns-clause-value c =
    let l = c.args.self.now in
    let is : l.header.metrics ≡ length (read_table l.bytes.now).metrics = length-metrics_in l.bytes.now l.header l.head in
    ap (map long) c.cells8.ensures.value ∙ seen_metric l.bytes.now l.header c.args.m l.head (omega (arith, c.requires))
