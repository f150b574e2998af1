-- Bytes that hold a sensor are as many as a sensor's.
use Rattle.std.proofs.Common.{sym, ◌∙◌}
use Rattle.fluturenc_two_wire.specs.SensorBytesLaws.{holds_length}
use Rattle.fluturenc_two_wire.proofs.fluturenc_sensor_message.Goals as goal

pub sensor_in-s-requires : goal.sensor_in-s-requires
sensor_in-s-requires c = holds_length _ (sym c.holds_sensor.ensures ∙ c.if-holds_sensor.true)

pub store-requires : goal.store-requires
store-requires c = holds_length _ (sym c.holds_sensor.ensures ∙ c.if-holds_sensor.true)
