mod Shipments
