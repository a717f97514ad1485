mod DartNumbers
mod HalfNumbers
