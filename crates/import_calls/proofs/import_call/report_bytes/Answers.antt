-- `import_calls::import_call::report_bytes` meets its contract.
use Rattle.std.proofs.Math.Nat.{div-div-eq-div-mul}
use Rattle.laws.specs.Bytes.{big_endian}
use Rattle.import_calls.proofs.import_call.report_bytes.Goals as goal

pub returns : goal.returns
unfolding big_endian
returns c =
    let r = c.args.told in
    rw (c.to_be_bytes-length.ensures, c.to_be_bytes-resent.ensures, div-div-eq-div-mul r.length 256 256, div-div-eq-div-mul r.length 65536 256, div-div-eq-div-mul r.resent 256 256, div-div-eq-div-mul r.resent 65536 256)
